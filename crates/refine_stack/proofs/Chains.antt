-- The path that takes the most, from its last function back to `main`.
use Rattle.std.proofs.Common.{◌≡◌, ℕ, ◌+◌, ◌<◌, ◌≤◌, ◌⊎◌, inl, inr, List, [], ◌∷◌, ◌++◌, length, get_or, sym, ap, subst, ◌∙◌, append_assoc, arith}
use Rattle.std.proofs.lemmas.Bool.{cases_lt}
use Rattle.std.proofs.lemmas.List.{get_or_default}
use Rattle.refine_stack.specs.declared.calls.Call.{Call}
use Rattle.refine_stack.specs.Taken.{value}
use Rattle.refine_stack.specs.Worst.{IsGiven, IsLoweredBy, IsBefore, IsChainBy, IsWorstChain}

module _ (frames : List ℕ) (stack : ℕ) (cs : List Call) (ts : List ℕ) (main needed : ℕ) where
  -- what stands up to here, and what goes on behind it
  pub record IsBack (path : List ℕ) (func : ℕ) : Type 0 where
    pub front : List ℕ
    pub is : path ≡ front ++ func ∷ []
    pub there : func < length ts
    pub rest : (ys : List ℕ) → IsChainBy frames stack cs ts main (func ∷ ys) → IsWorstChain frames stack cs ts main needed (front ++ func ∷ ys)

  pub goes_back : (path new : List ℕ) (func before : ℕ) → IsBack path func → IsBefore frames stack cs ts func before → before < length ts → new ≡ path ++ before ∷ [] → IsBack new before
  goes_back path new func before k b below e = by b.found
    where
      by : (before ≡ length ts) ⊎ IsGiven frames stack cs ts func before → IsBack new before
      by (inl z) = absurd (omega arith)
      by (inr g) = record {
        front = k.front ++ func ∷ [];
        is = e ∙ ap (λ (l : List ℕ). l ++ before ∷ []) k.is;
        there = below;
        rest = λ ys c. subst (λ (l : List ℕ). IsWorstChain frames stack cs ts main needed l) (sym (append_assoc k.front (func ∷ []) (before ∷ ys)))
            (k.rest (before ∷ ys) (record { has = g; lowest = b.lowest }, c));
      }

-- ---- the function before

-- by the first calls
pub record IsLowestGiven (frames : List ℕ) (stack : ℕ) (cs : List Call) (ts : List ℕ) (func i least : ℕ) : Type 0 where
  pub lowest : (x : Call) (j : ℕ) → j < i → get_or cs j x ≡ x → x.to ≡ func → 0 < get_or ts x.from 0 → get_or ts func 0 ≡ value frames stack x (get_or ts x.from 0) → least ≤ x.from
  pub found : (least ≡ length ts) ⊎ IsGiven frames stack cs ts func least

module _ (frames : List ℕ) (stack : ℕ) (cs : List Call) (ts : List ℕ) (func : ℕ) where
  pub given_more : (i least lower : ℕ) (x : Call) → i < length cs → get_or cs i x ≡ x → IsLowestGiven frames stack cs ts func i least → IsLoweredBy frames stack ts func x least lower → IsLowestGiven frames stack cs ts func (i + 1) lower
  given_more i least lower x below here a l = record {
    lowest = λ y j b at f p m. by y j at f p m (cases_lt j i) b;
    found = found a.found l.found;
  }
    where
      by : (y : Call) (j : ℕ) → get_or cs j y ≡ y → y.to ≡ func → 0 < get_or ts y.from 0 → get_or ts func 0 ≡ value frames stack y (get_or ts y.from 0) → (j < i) ⊎ (i ≤ j) → j < i + 1 → lower ≤ y.from
      by y j at f p m (inl b) c = let u = a.lowest y j b at f p m in let v = l.most in omega arith
      by y j at f p m (inr b) c =
          let ji : j ≡ i = omega arith in
          let ai : get_or cs i y ≡ y = subst (λ (k : ℕ). get_or cs k y ≡ y) ji at in
          let yx : y ≡ x = sym ai ∙ (get_or_default cs i y x below ∙ here) in
          subst (λ (z : Call). lower ≤ z.from) (sym yx)
          (l.done (subst (λ (z : Call). z.to ≡ func) yx f) (subst (λ (z : Call). 0 < get_or ts z.from 0) yx p)
          (subst (λ (z : Call). get_or ts func 0 ≡ value frames stack z (get_or ts z.from 0)) yx m))

      found : (least ≡ length ts) ⊎ IsGiven frames stack cs ts func least
          → (lower ≡ least) ⊎ ((x.from ≡ lower) × (x.to ≡ func) × (0 < get_or ts lower 0) × (get_or ts func 0 ≡ value frames stack x (get_or ts lower 0)))
          → (lower ≡ length ts) ⊎ IsGiven frames stack cs ts func lower
      found (inl e) (inl q) = inl (q ∙ e)
      found (inr e) (inl q) = inr (subst (λ (k : ℕ). IsGiven frames stack cs ts func k) (sym q) e)
      found e (inr q) = inr (x, (i, below, here), q.0, q.1, q.2, q.3)

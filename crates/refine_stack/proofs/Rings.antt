-- The first of the shortest cycles through a function.
use Rattle.std.proofs.Common.{◌≡◌, ℕ, ◌+◌, ◌-◌, ◌<◌, ◌≤◌, ◌⊎◌, inl, inr, List, [], ◌∷◌, ◌++◌, length, get_or, refl, sym, ap, subst, ◌∙◌, append_assoc, append-nil, arith}
use Rattle.std.specs.Prelude.{Contains}
use Rattle.std.proofs.lemmas.Bool.{cases_lt}
use Rattle.std.proofs.lemmas.List.{get_or_default}
use Rattle.refine_stack.specs.Cycles.{IsWalk, IsFirst, IsReached, ReachesItself, HasNoCycle, IsCycle}
use Rattle.refine_stack.specs.declared.calls.Call.{Call}
use Rattle.refine_stack.specs.Listed.{call, Calls}
use Rattle.refine_stack.specs.Far.{AreFar, IsLowered, IsNext, IsAround}

-- on the way round: what is gone, and what goes on from there
pub record IsOn (cs : List Call) (func : ℕ) (far : List ℕ) (total k : ℕ) (path : List ℕ) (last : ℕ) : Type 0 where
  pub gone : List ℕ
  pub is : path ≡ func ∷ gone
  pub there : last < length far
  pub number : get_or far last 0 + k ≡ total + 1
  pub rest : (ys : List ℕ) → IsWalk (Calls cs) last ys func → length ys + k ≡ total → IsFirst (Calls cs) last ys func
      → IsWalk (Calls cs) func (gone ++ ys) func × IsFirst (Calls cs) func (gone ++ ys) func × (length (gone ++ ys) + 1 ≡ total)

module _ (cs : List Call) (func : ℕ) (far : List ℕ) where
  module _ (a : AreFar cs func far) where
    -- one function more
    pub goes_on : (total k : ℕ) (path new : List ℕ) (last next : ℕ) → k < total → IsOn cs func far total k path last → IsNext cs far last (total - k) next → next < length far
        → new ≡ path ++ next ∷ [] → IsOn cs func far total (k + 1) new next
    goes_on total k path new last next less o n below e = by n.found
      where
        lowest : (ys : List ℕ) → length (next ∷ ys) + k ≡ total → (y : ℕ) (zs : List ℕ) → Calls cs last y → IsWalk (Calls cs) y zs func → length zs ≡ length ys → next ≤ y
        lowest ys l y zs j w q =
            let c = a.covers y zs w in
            let s = a.sound y c.0 in
            let d = a.covers last (y ∷ s.0) (j, s.1) in
            let u = c.1 in
            let v = d.1 in
            let t = s.2 in
            let m = o.number in
            let x : get_or far y 0 ≡ total - k = omega arith in
            n.lowest (call last y j.0) j.1 refl x

        by : (next ≡ length far) ⊎ ((x : Call) × Contains cs x × (x.from ≡ last) × (x.to ≡ next) × (get_or far next 0 ≡ total - k)) → IsOn cs func far total (k + 1) new next
        by (inl z) = absurd (omega arith)
        by (inr x) =
            let m = x.4 in
            let j : Calls cs last next = (x.0.crosses, subst (λ (h : ℕ). Contains cs (call last h x.0.crosses)) x.3 (subst (λ (i : ℕ). Contains cs (call i x.0.to x.0.crosses)) x.2 x.1)) in
            record {
              gone = o.gone ++ next ∷ [];
              is = e ∙ ap (λ (l : List ℕ). l ++ next ∷ []) o.is;
              there = below;
              number = omega arith;
              rest = λ ys w l f.
                  let t : length (next ∷ ys) + k ≡ total = omega arith in
                  subst (λ (l : List ℕ). IsWalk (Calls cs) func l func × IsFirst (Calls cs) func l func × (length l + 1 ≡ total)) (sym (append_assoc o.gone (next ∷ []) ys))
                  (o.rest (next ∷ ys) (j, w) t (lowest ys t, f));
            }

    -- the last call closes the cycle
    pub closes : (total k : ℕ) (path new : List ℕ) (last : ℕ) → total ≡ get_or far func 0 → k ≡ total → IsOn cs func far total k path last → new ≡ path ++ func ∷ [] → IsAround cs func new
    closes total k path new last t e o q =
        let n = o.number in
        let s = a.sound last (omega arith) in
        let m = s.2 in
        close s.0 s.1 (omega arith)
      where
        done : IsWalk (Calls cs) func (o.gone ++ []) func × IsFirst (Calls cs) func (o.gone ++ []) func × (length (o.gone ++ []) + 1 ≡ total) → IsAround cs func new
        done r =
            let g = append-nil o.gone in
            let l : length o.gone + 1 ≡ total = subst (λ (z : List ℕ). length z + 1 ≡ total) g r.2 in
            record {
              between = o.gone;
              is = q ∙ ap (λ (z : List ℕ). z ++ func ∷ []) o.is;
              walk = subst (λ (z : List ℕ). IsWalk (Calls cs) func z func) g r.0;
              shortest = λ xs w. let c = (a.covers func xs w).1 in omega arith;
              first = subst (λ (z : List ℕ). IsFirst (Calls cs) func z func) g r.1;
            }

        close : (xs : List ℕ) → IsWalk (Calls cs) last xs func → length xs ≡ 0 → IsAround cs func new
        close [] w l = done (o.rest [] w (omega arith) tt)
        close (y ∷ ys) w l = absurd (omega arith)

-- ---- which function

module _ (cs : List Call) (main : ℕ) where
  -- no function below this one is on a cycle
  abbrev pub NoneBelow : ℕ → Type 0
  NoneBelow i = (f : ℕ) → f < i → IsReached (Calls cs) main f → ReachesItself (Calls cs) f → ⊥

  pub is_cycle : (func : ℕ) (far path : List ℕ) → AreFar cs func far → NoneBelow func → 0 < get_or far func 0 → (func ≡ main) ⊎ (0 < get_or far main 0) → IsAround cs func path → IsCycle (Calls cs) main path
  is_cycle func far path a none some_ r o = record {
    func = func;
    between = o.between;
    is = o.is;
    reached = by r;
    walk = o.walk;
    lowest = λ f q s. low f q s (cases_lt f func);
    shortest = o.shortest;
    first = o.first;
  }
    where
      by : (func ≡ main) ⊎ (0 < get_or far main 0) → IsReached (Calls cs) main func
      by (inl e) = inl e
      by (inr p) = let s = a.sound main p in inr (s.0, s.1)

      low : (f : ℕ) → IsReached (Calls cs) main f → ReachesItself (Calls cs) f → (f < func) ⊎ (func ≤ f) → func ≤ f
      low f q s (inl l) = absurd (none f l q s)
      low f q s (inr l) = l

  pub none_more : (func : ℕ) (far : List ℕ) → AreFar cs func far → NoneBelow func → (0 < get_or far func 0 → (func ≡ main) ⊎ (0 < get_or far main 0) → ⊥) → NoneBelow (func + 1)
  none_more func far a none nope f l r s = by (cases_lt f func)
    where
      here : (func ≡ main) ⊎ ((xs : List ℕ) × IsWalk (Calls cs) main xs func) → (func ≡ main) ⊎ (0 < get_or far main 0)
      here (inl e) = inl e
      here (inr w) = inr (a.covers main w.0 w.1).0

      by : (f < func) ⊎ (func ≤ f) → ⊥
      by (inl b) = none f b r s
      by (inr b) =
          let e : f ≡ func = omega arith in
          nope (a.covers func s.0 (subst (λ (i : ℕ). IsWalk (Calls cs) i s.0 func) e (subst (λ (i : ℕ). IsWalk (Calls cs) f s.0 i) e s.1))).0
          (here (subst (IsReached (Calls cs) main) e r))

  -- functions that are reached are there
  pub none_at_all : (count : ℕ) → main < count → ((x : Call) → Contains cs x → (x.from < count) × (x.to < count)) → NoneBelow count → HasNoCycle (Calls cs) main
  none_at_all count below there none f r s = none f (by r) r s
    where
      last : (g : ℕ) (xs : List ℕ) → IsWalk (Calls cs) g xs f → f < count
      last g [] w = (there (call g f w.0) w.1).1
      last g (x ∷ xs) w = last x xs w.1

      by : IsReached (Calls cs) main f → f < count
      by (inl e) = subst (λ (i : ℕ). i < count) (sym e) below
      by (inr w) = last main w.0 w.1

-- ---- the next function

-- of the first calls
pub record IsLowestSo (cs : List Call) (far : List ℕ) (from more i least : ℕ) : Type 0 where
  pub lowest : (x : Call) (j : ℕ) → j < i → get_or cs j x ≡ x → x.from ≡ from → get_or far x.to 0 ≡ more → least ≤ x.to
  pub found : (least ≡ length far) ⊎ ((x : Call) × Contains cs x × (x.from ≡ from) × (x.to ≡ least) × (get_or far least 0 ≡ more))

module _ (cs : List Call) (far : List ℕ) (from more : ℕ) where
  pub lowest_more : (i least lower : ℕ) (x : Call) → i < length cs → get_or cs i x ≡ x → IsLowestSo cs far from more i least → IsLowered far from more x least lower → IsLowestSo cs far from more (i + 1) lower
  lowest_more i least lower x below here a l = record {
    lowest = λ y j b at f m. by y j at f m (cases_lt j i) b;
    found = found a.found l.found;
  }
    where
      by : (y : Call) (j : ℕ) → get_or cs j y ≡ y → y.from ≡ from → get_or far y.to 0 ≡ more → (j < i) ⊎ (i ≤ j) → j < i + 1 → lower ≤ y.to
      by y j at f m (inl b) c = let u = a.lowest y j b at f m in let v = l.most in omega arith
      by y j at f m (inr b) c =
          let ji : j ≡ i = omega arith in
          let ai : get_or cs i y ≡ y = subst (λ (k : ℕ). get_or cs k y ≡ y) ji at in
          let yx : y ≡ x = sym ai ∙ (get_or_default cs i y x below ∙ here) in
          subst (λ (z : Call). lower ≤ z.to) (sym yx) (l.done (subst (λ (z : Call). z.from ≡ from) yx f) (subst (λ (z : Call). get_or far z.to 0 ≡ more) yx m))

      found : (least ≡ length far) ⊎ ((y : Call) × Contains cs y × (y.from ≡ from) × (y.to ≡ least) × (get_or far least 0 ≡ more))
          → (lower ≡ least) ⊎ ((x.from ≡ from) × (x.to ≡ lower) × (get_or far lower 0 ≡ more))
          → (lower ≡ length far) ⊎ ((y : Call) × Contains cs y × (y.from ≡ from) × (y.to ≡ lower) × (get_or far lower 0 ≡ more))
      found (inl e) (inl q) = inl (q ∙ e)
      found (inr e) (inl q) = inr (e.0, e.1, e.2, e.3 ∙ sym q, ap (λ (k : ℕ). get_or far k 0) q ∙ e.4)
      found e (inr q) = inr (x, (i, below, here), q.0, q.1, q.2)

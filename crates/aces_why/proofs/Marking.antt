-- Numbers that are marked one after another.
use Rattle.std.proofs.Common.{◌≡◌, ◌↔◌, ℕ, zero, suc, ◌+◌, ◌<◌, ◌≤◌, Bool, true, false, List, [], ◌∷◌, ◌++◌, length, get_or, get_or-set_same, get_or-set_other, set, cond, take, replicate, refl, sym, ap, subst, ◌∙◌, inl, inr, arith, mul-zero}
use Rattle.std.specs.Prelude.{◌⊎◌, Contains}
use Rattle.std.specs.List.{count_by}
use Rattle.std.proofs.lemmas.Bool.{cases_lt, cases_eq}
use Rattle.std.proofs.lemmas.List.{length_push, take_more, take_all, length-replicate, get_or_default}
use Rattle.std.proofs.lemmas.List.Elements.{Contains-get_or, Contains-push, Contains-push_cases, Contains-append_left}
use Rattle.std.proofs.Math.ListN.{get_or-eq_default}
use Rattle.std.proofs.lemmas.List.Folds.{sum_by-replicate}
use Rattle.std.proofs.lemmas.List.Sums.{sum_by-set}
use Rattle.aces_why.specs.Reached.{Leads, at_first, further, AreReached}
use Rattle.aces_why.specs.Marks.{AreMarks}

-- one more is set
set_once : (flags : List Bool) (i : ℕ) → i < length flags → get_or flags i false ≡ false → count_by (λ b. b) (set flags i true) ≡ count_by (λ b. b) flags + 1
set_once flags i l h =
    let f : Bool → ℕ = λ b. cond b 1 0 in
    let e = sum_by-set f flags i true false l in
    let z : f (get_or flags i false) ≡ 0 = ap f h in
    omega (arith, e, z)

-- ---- one number more

module _ (flags new : List Bool) (found more : List ℕ) (n : ℕ) (l : n < length flags) (unset : get_or flags n false ≡ false) (e : new ≡ set flags n true) (p : more ≡ found ++ n ∷ []) where
  pub flag_same : get_or new n false ≡ true
  flag_same = ap (λ fs. get_or fs n false) e ∙ get_or-set_same flags n true false l

  pub flag_other : (g : ℕ) → (g ≡ n → ⊥) → get_or new g false ≡ get_or flags g false
  flag_other g d = ap (λ fs. get_or fs g false) e ∙ get_or-set_other flags n g true false d

  pub marks_more : AreMarks flags found → AreMarks new more
  marks_more m =
      let c = set_once flags n l unset in
      let d : count_by (λ b. b) new ≡ count_by (λ b. b) (set flags n true) = ap (count_by (λ b. b)) e in
      let o = m.once in
      let k : length more ≡ length found + 1 = ap length p ∙ length_push found n in
      record { each = λ g. ((λ h. set_of g (Contains-push_cases found n g (subst (λ xs. Contains xs g) p h))), λ h. listed g (cases_eq g n) h); once = omega arith }
    where
      other : (g : ℕ) → (g ≡ n) ⊎ (g ≡ n → ⊥) → Contains found g → get_or new g false ≡ true
      other g (inl q) h = subst (λ (x : ℕ). get_or new x false ≡ true) (sym q) flag_same
      other g (inr d) h = flag_other g d ∙ (m.each g).0 h

      set_of : (g : ℕ) → Contains found g ⊎ (n ≡ g) → get_or new g false ≡ true
      set_of g (inl h) = other g (cases_eq g n) h
      set_of g (inr q) = subst (λ (x : ℕ). get_or new x false ≡ true) q flag_same

      listed : (g : ℕ) → (g ≡ n) ⊎ (g ≡ n → ⊥) → get_or new g false ≡ true → Contains more g
      listed g (inl q) h = subst (λ xs. Contains xs g) (sym p) (subst (λ (x : ℕ). Contains (found ++ n ∷ []) x) (sym q) (Contains-push found n))
      listed g (inr d) h = subst (λ xs. Contains xs g) (sym p) (Contains-append_left found (n ∷ []) g ((m.each g).1 (sym (flag_other g d) ∙ h)))

-- ---- all of a list

module _ (old mid new : List Bool) (xs : List ℕ) (i n x : ℕ) (l : i < length xs) (at : x ≡ get_or xs i 0) (size : length mid ≡ n) where
  pub all_marked :
      ((g : ℕ) → get_or mid g false ≡ true ↔ ((get_or old g false ≡ true) ⊎ (Contains (take i xs) g × (g < n))))
      → ((g : ℕ) → get_or new g false ≡ true ↔ ((get_or mid g false ≡ true) ⊎ ((g ≡ x) × (g < length mid))))
      → (g : ℕ) → get_or new g false ≡ true ↔ ((get_or old g false ≡ true) ⊎ (Contains (take (i + 1) xs) g × (g < n)))
  all_marked before one g = ((λ h. up ((one g).0 h)), down)
    where
      more : take (i + 1) xs ≡ take i xs ++ x ∷ []
      more = take_more xs i 0 l ∙ ap (λ y. take i xs ++ y ∷ []) (sym at)

      first : (get_or old g false ≡ true) ⊎ (Contains (take i xs) g × (g < n)) → (get_or old g false ≡ true) ⊎ (Contains (take (i + 1) xs) g × (g < n))
      first (inl h) = inl h
      first (inr h) = inr (subst (λ ys. Contains ys g) (sym more) (Contains-append_left (take i xs) (x ∷ []) g h.0), h.1)

      up : (get_or mid g false ≡ true) ⊎ ((g ≡ x) × (g < length mid)) → (get_or old g false ≡ true) ⊎ (Contains (take (i + 1) xs) g × (g < n))
      up (inl h) = first ((before g).0 h)
      up (inr h) =
          inr (
            subst (λ ys. Contains ys g) (sym more) (subst (λ (y : ℕ). Contains (take i xs ++ x ∷ []) y) (sym h.0) (Contains-push (take i xs) x)),
            subst (λ (k : ℕ). g < k) size h.1,
          )

      back : Contains (take i xs) g ⊎ (x ≡ g) → g < n → get_or new g false ≡ true
      back (inl h) b = (one g).1 (inl ((before g).1 (inr (h, b))))
      back (inr q) b = (one g).1 (inr (sym q, subst (λ (k : ℕ). g < k) (sym size) b))

      down : (get_or old g false ≡ true) ⊎ (Contains (take (i + 1) xs) g × (g < n)) → get_or new g false ≡ true
      down (inl h) = (one g).1 (inl ((before g).1 (inl h)))
      down (inr h) = back (Contains-push_cases (take i xs) x g (subst (λ ys. Contains ys g) more h.0)) h.1

pub to_all : (old new : List Bool) (xs : List ℕ) (i : ℕ) → length xs ≤ i
    → ((g : ℕ) → get_or new g false ≡ true ↔ ((get_or old g false ≡ true) ⊎ (Contains (take i xs) g × (g < length old))))
    → (g : ℕ) → get_or new g false ≡ true ↔ ((get_or old g false ≡ true) ⊎ (Contains xs g × (g < length old)))
to_all old new xs i l h = subst (λ ys. (g : ℕ) → get_or new g false ≡ true ↔ ((get_or old g false ≡ true) ⊎ (Contains ys g × (g < length old)))) (take_all i xs l) h

-- ---- the search

-- so many of the numbers that were found have been gone through
pub record IsSearched (next : List (List ℕ)) (first handled : ℕ) (flags : List Bool) (found : List ℕ) : Type 0 where
  pub count : length flags ≡ length next
  pub marks : AreMarks flags found
  pub begun : first < length next → get_or flags first false ≡ true
  pub sound : (g : ℕ) → get_or flags g false ≡ true → Leads next first g
  pub within : handled ≤ length found
  pub closed : (k x : ℕ) → k < handled → Contains (get_or next (get_or found k 0) []) x → x < length next → get_or flags x false ≡ true

-- none is set at first
pub none_set : (n g : ℕ) → get_or (replicate n false) g false ≡ true → ⊥
none_set zero g h = cc
none_set (suc n) zero h = cc
none_set (suc n) (suc g) h = none_set n g h

none_counted : (n : ℕ) → count_by (λ b. b) (replicate n false) ≡ 0
none_counted n = sum_by-replicate (λ (b : Bool). cond b 1 0) n false ∙ mul-zero n

pub marks_none : (n : ℕ) → AreMarks (replicate n false) []
marks_none n = record { each = λ g. ((λ c. (let b = c.1 in absurd (omega arith))), λ h. absurd (none_set n g h)); once = none_counted n }

pub searched_first : (next : List (List ℕ)) (first : ℕ) (flags : List Bool) (found : List ℕ) → length flags ≡ length next → AreMarks flags found
    → ((g : ℕ) → get_or flags g false ≡ true ↔ ((get_or (replicate (length next) false) g false ≡ true) ⊎ ((g ≡ first) × (g < length (replicate (length next) false)))))
    → IsSearched next first 0 flags found
searched_first next first flags found count marks now =
    record {
      count = count;
      marks = marks;
      begun = λ h. (now first).1 (inr (refl, subst (λ (n : ℕ). first < n) (sym (length-replicate (length next) false)) h));
      sound = λ g h. sound g ((now g).0 h);
      within = omega arith;
      closed = λ k x b i j. absurd (omega arith);
    }
  where
    sound : (g : ℕ) → (get_or (replicate (length next) false) g false ≡ true) ⊎ ((g ≡ first) × (g < length (replicate (length next) false))) → Leads next first g
    sound g (inl h) = absurd (none_set (length next) g h)
    sound g (inr h) = subst (Leads next first) (sym h.0) at_first

module _ (next : List (List ℕ)) (first handled : ℕ) (flags new : List Bool) (found more : List ℕ) (s : IsSearched next first handled flags found) (l : handled < length found)
    (count : length new ≡ length flags) (marks : AreMarks new more) (longer : length found ≤ length more) (kept : (k : ℕ) → k < length found → get_or more k 0 ≡ get_or found k 0)
    (now : (g : ℕ) → get_or new g false ≡ true ↔ ((get_or flags g false ≡ true) ⊎ (Contains (get_or next (get_or found handled 0) []) g × (g < length flags)))) where
  pub searched_more : IsSearched next first (handled + 1) new more
  searched_more =
      record {
        count = count ∙ s.count;
        marks = marks;
        begun = λ h. (now first).1 (inl (s.begun h));
        sound = λ g h. sound g ((now g).0 h);
        within = omega arith;
        closed = λ k x b i j. closed k x (cases_lt k handled) b i j;
      }
    where
      reached_now : Leads next first (get_or found handled 0)
      reached_now = s.sound (get_or found handled 0) ((s.marks.each (get_or found handled 0)).0 (Contains-get_or found handled 0 l))

      sound : (g : ℕ) → (get_or flags g false ≡ true) ⊎ (Contains (get_or next (get_or found handled 0) []) g × (g < length flags)) → Leads next first g
      sound g (inl h) = s.sound g h
      sound g (inr h) = further reached_now h.0

      closed : (k x : ℕ) → (k < handled) ⊎ (handled ≤ k) → k < handled + 1 → Contains (get_or next (get_or more k 0) []) x → x < length next → get_or new x false ≡ true
      closed k x (inl b) c i j =
          (now x).1 (inl (s.closed k x b (subst (λ (y : ℕ). Contains (get_or next y []) x) (kept k (omega arith)) i) j))
      closed k x (inr b) c i j =
          let e : k ≡ handled = omega arith in
          let q : get_or more k 0 ≡ get_or found handled 0 = kept k (omega arith) ∙ ap (λ n. get_or found n 0) e in
          (now x).1 (inr (subst (λ (y : ℕ). Contains (get_or next y []) x) q i, subst (λ (n : ℕ). x < n) (sym s.count) j))

module _ (next : List (List ℕ)) (first handled : ℕ) (flags : List Bool) (found : List ℕ) (s : IsSearched next first handled flags found) (l : length found ≤ handled) where
  none : (x : ℕ) → Contains [] x → ⊥
  none x c = let b = c.1 in omega arith

  -- what comes next of one that is reached is reached
  onward : (a g : ℕ) → (a < length next) ⊎ (length next ≤ a) → (a < length next → get_or flags a false ≡ true) → Contains (get_or next a []) g → g < length next → get_or flags g false ≡ true
  onward a g (inl j) before i h =
      let c = (s.marks.each a).1 (before j) in
      let q : get_or found c.0 0 ≡ a = get_or_default found c.0 0 a c.1 ∙ c.2 in
      let b = c.1 in
      s.closed c.0 g (omega arith) (subst (λ (y : ℕ). Contains (get_or next y []) g) (sym q) i) h
  onward a g (inr j) before i h = absurd (none g (subst (λ xs. Contains xs g) (get_or-eq_default next [] j) i))

  complete : (g : ℕ) → Leads next first g → g < length next → get_or flags g false ≡ true
  complete g at_first h = s.begun h
  complete g (further {a} {b} before i) h = onward a g (cases_lt a (length next)) (λ j. complete a before j) i h

  pub all_searched : AreReached next first flags
  all_searched = record { count = s.count; each = λ g h. ((λ x. s.sound g x), λ x. complete g x h) }

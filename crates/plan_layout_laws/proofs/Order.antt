-- One of two blocks of flash stands behind the other.
use Rattle.std.proofs.Common.{◌≡◌, ◌≢◌, ℕ, zero, suc, ◌+◌, ◌<◌, ◌≤◌, ◌⊎◌, inl, inr, Bool, List, [], ◌∷◌, length, get_or, take, sum, nat_lt, nat_eq, refl, sym, ap, ◌∙◌, ltb-true, lt-ltb, eq-eqb, eqb-true, arith}
use Rattle.std.specs.Prelude.{filter}
use Rattle.std.proofs.lemmas.List.{get_or-take, length-take}
use Rattle.std.proofs.lemmas.Bool.{cases_lt}
use mathlib.Core.Logic.{⊎_elim}
use Rattle.plan_model.specs.FlashPlacement.{bytes_before}
use Rattle.plan_layout.proofs.Before.{two_in_one, with_next, not_both}

take_take : (j k : ℕ) (xs : List ℕ) → j ≤ k → take j (take k xs) ≡ take j xs
take_take zero k xs l = refl
take_take (suc j) zero xs l = absurd (omega arith)
take_take (suc j) (suc k) [] l = refl
take_take (suc j) (suc k) (x ∷ xs) l = ap (λ ys. x ∷ ys) (take_take j k xs (omega arith))

module _ (xs : List ℕ) where
  -- a larger block stands before
  larger_first : (j k : ℕ) → j < length xs → get_or xs k 0 < get_or xs j 0 → bytes_before xs j + get_or xs j 0 ≤ bytes_before xs k
  unfolding bytes_before
  larger_first j k l h =
      let v = get_or xs j 0 in
      let w = get_or xs k 0 in
      let both = two_in_one (λ s. nat_lt v s) (λ s. nat_eq s v) (λ s. nat_lt w s) (not_both v)
      (λ x e. let b = ltb-true v x e in lt-ltb w x (omega arith)) (λ x e. let b = eqb-true x v e in lt-ltb w x (omega arith)) xs in
      let own = with_next (λ s. nat_eq s v) xs j l (eq-eqb v v refl) in
      omega arith

  -- the earlier of two equal blocks stands before the other
  earlier_first : (j k : ℕ) → j < k → k < length xs → get_or xs j 0 ≡ get_or xs k 0 → bytes_before xs j + get_or xs j 0 ≤ bytes_before xs k
  unfolding bytes_before
  earlier_first j k l h e =
      let w = get_or xs k 0 in
      let test : ℕ → Bool = λ s. nat_eq s w in
      let size = length-take k xs in
      let there : j < length (take k xs) = omega arith in
      let item = get_or-take k xs j 0 l in
      let own = with_next test (take k xs) j there (eq-eqb (get_or (take k xs) j 0) w (item ∙ e)) in
      let front = ap (λ ys. sum (filter test ys)) (take_take j k xs (omega arith)) in
      let above = ap (λ v. sum (filter (λ s. nat_lt v s) xs)) e in
      let same = ap (λ v. sum (filter (λ s. nat_eq s v) (take j xs))) e in
      omega arith

  -- no two stand at the same place
  pub one_first : (j k : ℕ) → j < length xs → k < length xs → j ≢ k → (bytes_before xs j + get_or xs j 0 ≤ bytes_before xs k) ⊎ (bytes_before xs k + get_or xs k 0 ≤ bytes_before xs j)
  one_first j k l h ne = ⊎_elim (λ lt. inr (larger_first k j h lt)) (λ le. ⊎_elim (λ lt. inl (larger_first j k l lt)) (λ ge. equal (omega arith)) (cases_lt (get_or xs k 0) (get_or xs j 0))) (cases_lt (get_or xs j 0) (get_or xs k 0))
    where
      equal : get_or xs j 0 ≡ get_or xs k 0 → (bytes_before xs j + get_or xs j 0 ≤ bytes_before xs k) ⊎ (bytes_before xs k + get_or xs k 0 ≤ bytes_before xs j)
      equal e =
          ⊎_elim (λ lt. inl (earlier_first j k lt h e)) (λ ge. ⊎_elim (λ lt. inr (earlier_first k j lt l (sym e))) (λ le. absurd (ne (omega arith))) (cases_lt k j)) (cases_lt j k)

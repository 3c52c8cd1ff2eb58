-- The first number below a bound that passes a test.
use Rattle.std.proofs.Common.{◌≡◌, ℕ, zero, suc, ◌<◌, ◌≤◌, ◌+◌, Bool, true, false, cond, Option, Some, None, refl, sym, ap, subst, ◌∙◌, arith}
use Rattle.std.specs.Prelude.{find, IfSome}
use Rattle.std.specs.List.{range_with_len}
use Rattle.std.proofs.lemmas.Bool.{cases_lt}
use mathlib.Core.Logic.{⊎_elim}
use Rattle.plan_model.specs.Lists.{numbers_below}

module _ (test : ℕ → Bool) where
  found_from : (a n m : ℕ) → a ≤ m → m < a + n → test m ≡ true → ((i : ℕ) → a ≤ i → i < m → test i ≡ false) → find test (range_with_len a n) ≡ Some m
  found_from a zero m l h p f = absurd (omega arith)
  found_from a (suc n) m l h p f =
      ⊎_elim (λ lt. later lt (λ lt. found_from (a + 1) n m (omega arith) (omega arith) p (λ i u v. f i (omega arith) v))) here (cases_lt a m)
    where
      later : a < m → (a < m → find test (range_with_len (a + 1) n) ≡ Some m) → find test (range_with_len a (suc n)) ≡ Some m
      later lt rest = ap (λ b. cond b (Some a) (find test (range_with_len (a + 1) n))) (f a (omega arith) lt) ∙ rest lt

      here : m ≤ a → find test (range_with_len a (suc n)) ≡ Some m
      here le = let e : m ≡ a = omega arith in ap (λ b. cond b (Some a) (find test (range_with_len (a + 1) n))) (subst (λ k. test k ≡ true) e p) ∙ ap (λ k. Some k) (sym e)

  none_from : (a n : ℕ) → ((i : ℕ) → a ≤ i → i < a + n → test i ≡ false) → find test (range_with_len a n) ≡ None
  none_from a zero f = refl
  none_from a (suc n) f =
      ap (λ b. cond b (Some a) (find test (range_with_len (a + 1) n))) (f a (omega arith) (omega arith)) ∙ none_from (a + 1) n (λ i u v. f i (omega arith) (omega arith))

  pub found_below : (n m : ℕ) → m < n → test m ≡ true → ((i : ℕ) → i < m → test i ≡ false) → find test (numbers_below n) ≡ Some m
  found_below n m l p f = found_from 0 n m (omega arith) (omega arith) p (λ i u v. f i v)

  pub none_below : (n : ℕ) → ((i : ℕ) → i < n → test i ≡ false) → find test (numbers_below n) ≡ None
  none_below n f = none_from 0 n (λ i u v. f i (omega arith))

  none_at : (a n : ℕ) → find test (range_with_len a n) ≡ None → (i : ℕ) → a ≤ i → i < a + n → test i ≡ false
  none_at a zero e i u v = absurd (omega arith)
  none_at a (suc n) e i u v = by (test a) refl e (λ rest lt. none_at (a + 1) n rest i (omega arith) (omega arith))
    where
      by : (b : Bool) → test a ≡ b → cond b (Some a) (find test (range_with_len (a + 1) n)) ≡ None → (find test (range_with_len (a + 1) n) ≡ None → a < i → test i ≡ false) → test i ≡ false
      by true h k ih = let wrong : Some a ≡ None = k in cc
      by false h k ih = ⊎_elim (ih k) (λ le. let s : a ≡ i = omega arith in subst (λ m. test m ≡ false) s h) (cases_lt a i)

  -- where none is found, none passes
  pub none_passes : (n : ℕ) → find test (numbers_below n) ≡ None → (i : ℕ) → i < n → test i ≡ false
  none_passes n e i l = none_at 0 n e i (omega arith) (omega arith)

  passes_from : (a n : ℕ) → IfSome (find test (range_with_len a n)) (λ m. (test m ≡ true) × (m < a + n))
  passes_from a zero = Prim.tt
  passes_from a (suc n) = by (test a) refl (passes_from (a + 1) n)
    where
      wider : (o : Option ℕ) → IfSome o (λ m. (test m ≡ true) × (m < a + 1 + n)) → IfSome o (λ m. (test m ≡ true) × (m < a + suc n))
      wider None h = h
      wider (Some m) h = (h.0, omega (arith, h.1))

      by : (b : Bool) → test a ≡ b → IfSome (find test (range_with_len (a + 1) n)) (λ m. (test m ≡ true) × (m < a + 1 + n)) → IfSome (cond b (Some a) (find test (range_with_len (a + 1) n))) (λ m. (test m ≡ true) × (m < a + suc n))
      by true h ih = (h, omega arith)
      by false h ih = wider (find test (range_with_len (a + 1) n)) ih

  -- what is found passes
  pub found_passes : (n : ℕ) → IfSome (find test (numbers_below n)) (λ m. (test m ≡ true) × (m < 0 + n))
  found_passes n = passes_from 0 n

-- Runs of numbers.
use Rattle.std.proofs.Common.{◌≡◌, ℕ, zero, suc, ◌+◌, ◌<◌, ◌≤◌, Bool, true, false, ◌||◌, List, [], ◌∷◌, ◌++◌, length, refl, sym, ap, ◌∙◌, subst, arith, nat_eq, nat_lt, nat_le, ◌⊎◌, inl, inr, Some, None, slice_get}
use Rattle.std.proofs.lemmas.Bool.{false≢true, ltb-true, leb-true, lt-ltb, eqb-true, eq-eqb, or_left, or_right, or_cases}
use Rattle.base_laws.proofs.Tests.{same_tests}
use Rattle.need_numbers.specs.Rows.{has}
use Rattle.need_numbers.specs.Stretches.{run}

pub rises : (n k : ℕ) → run n true (suc k) ≡ run n true k ++ (n + k) ∷ []
rises n zero = let e : n ≡ n + 0 = omega arith in ap (λ m. m ∷ []) e
rises n (suc k) = let e : suc n + k ≡ n + suc k = omega arith in ap (λ xs. n ∷ xs) (rises (suc n) k ∙ ap (λ m. run (suc n) true k ++ m ∷ []) e)

pub stays : (n k : ℕ) → run n false (suc k) ≡ run n false k ++ n ∷ []
stays n zero = refl
stays n (suc k) = ap (λ xs. n ∷ xs) (stays n k)

pub stayed : (first number count : ℕ) (r : Bool) → number ≡ first → (count ≡ 1) ⊎ (r ≡ false) → run first false (count + 1) ≡ run first r count ++ number ∷ []
stayed first number count r e (inl q) =
    subst (λ k. run first false (k + 1) ≡ run first r k ++ number ∷ []) (sym q) (ap (λ m. first ∷ m ∷ []) (sym e))
stayed first number count r e (inr q) =
    let m : count + 1 ≡ suc count = omega arith in
    ap (run first false) m ∙ (stays first count ∙ (ap (λ b. run first b count ++ first ∷ []) (sym q) ∙ ap (λ x. run first r count ++ x ∷ []) (sym e)))

pub rose : (first number count : ℕ) (r : Bool) → number ≡ first + count → (count ≡ 1) ⊎ (r ≡ true) → run first true (count + 1) ≡ run first r count ++ number ∷ []
rose first number count r e (inl q) =
    let f : suc first ≡ number = omega arith in
    subst (λ k. run first true (k + 1) ≡ run first r k ++ number ∷ []) (sym q) (ap (λ m. first ∷ m ∷ []) f)
rose first number count r e (inr q) =
    let m : count + 1 ≡ suc count = omega arith in
    ap (run first true) m ∙ (rises first count ∙ (ap (λ b. run first b count ++ (first + count) ∷ []) (sym q) ∙ ap (λ x. run first r count ++ x ∷ []) (sym e)))

-- which numbers a run has
pub in_rising : (first count number : ℕ) → first ≤ number → number < first + count → has number (run first true count) ≡ true
in_rising first zero number l m = absurd (omega arith)
in_rising first (suc k) number l m = at (nat_eq number first) refl (λ a b. in_rising (suc first) k number a b)
  where
    at : (b : Bool) → nat_eq number first ≡ b → (suc first ≤ number → number < suc first + k → has number (run (suc first) true k) ≡ true) → nat_eq number first || has number (run (suc first) true k) ≡ true
    at true e ih = or_left (nat_eq number first) (has number (run (suc first) true k)) e
    at false e ih =
        let d : number ≡ first → ⊥ = λ q. false≢true (sym e ∙ eq-eqb number first q) in
        or_right (nat_eq number first) (has number (run (suc first) true k)) (ih (omega (arith, l, d)) (omega arith))

pub rising_in : (first count number : ℕ) → has number (run first true count) ≡ true → (first ≤ number) × (number < first + count)
rising_in first zero number h = absurd (false≢true h)
rising_in first (suc k) number h = elim (or_cases (nat_eq number first) (has number (run (suc first) true k)) h) [
  | inl e ↦ let q = eqb-true number first e in (omega arith, omega arith)
  | inr e ↦ let r = rising_in (suc first) k number e in let a = r.0 in let b = r.1 in (omega arith, omega arith)
]

pub in_flat : (first count number : ℕ) → 0 < count → number ≡ first → has number (run first false count) ≡ true
in_flat first zero number l e = absurd (omega arith)
in_flat first (suc k) number l e = or_left (nat_eq number first) (has number (run first false k)) (eq-eqb number first e)

pub flat_in : (first count number : ℕ) → has number (run first false count) ≡ true → (0 < count) × (number ≡ first)
flat_in first zero number h = absurd (false≢true h)
flat_in first (suc k) number h = elim (or_cases (nat_eq number first) (has number (run first false k)) h) [
  | inl e ↦ (omega arith, eqb-true number first e)
  | inr e ↦ (omega arith, (flat_in first k number e).1)
]

-- places
pub run_length : (n : ℕ) (r : Bool) (k : ℕ) → length (run n r k) ≡ k
run_length n r zero = refl
run_length n true (suc k) = ap suc (run_length (suc n) true k)
run_length n false (suc k) = ap suc (run_length n false k)

pub get_left : (xs ys : List ℕ) (p : ℕ) → p < length xs → slice_get (xs ++ ys) p ≡ slice_get xs p
get_left [] ys p l = absurd (omega arith)
get_left (x ∷ xs) ys zero l = refl
get_left (x ∷ xs) ys (suc p) l = get_left xs ys p (omega arith)

pub get_right : (xs ys : List ℕ) (p q : ℕ) → p ≡ length xs + q → slice_get (xs ++ ys) p ≡ slice_get ys q
get_right [] ys p q e = let f : p ≡ q = omega arith in ap (slice_get ys) f
get_right (x ∷ xs) ys zero q e = absurd (omega arith)
get_right (x ∷ xs) ys (suc p) q e = get_right xs ys p q (omega arith)

rising_at : (n k p : ℕ) → p < k → slice_get (run n true k) p ≡ Some (n + p)
rising_at n zero p l = absurd (omega arith)
rising_at n (suc k) zero l = let e : n ≡ n + 0 = omega arith in ap Some e
rising_at n (suc k) (suc p) l = let e : suc n + p ≡ n + suc p = omega arith in rising_at (suc n) k p (omega arith) ∙ ap Some e

flat_at : (n k p : ℕ) → p < k → slice_get (run n false k) p ≡ Some n
flat_at n zero p l = absurd (omega arith)
flat_at n (suc k) zero l = refl
flat_at n (suc k) (suc p) l = flat_at n k p (omega arith)

pub at_rising_place : (n : ℕ) (r : Bool) (k p : ℕ) → p < k → r ≡ true → Some (n + p) ≡ slice_get (run n r k) p
at_rising_place n r k p l e = subst (λ b. Some (n + p) ≡ slice_get (run n b k) p) (sym e) (sym (rising_at n k p l))

pub at_flat_place : (n : ℕ) (r : Bool) (k p : ℕ) → p < k → r ≡ false → Some n ≡ slice_get (run n r k) p
at_flat_place n r k p l e = subst (λ b. Some n ≡ slice_get (run n b k) p) (sym e) (sym (flat_at n k p l))

pub past : (xs : List ℕ) (p : ℕ) → length xs ≤ p → slice_get xs p ≡ None
past [] p l = refl
past (x ∷ xs) zero l = absurd (omega arith)
past (x ∷ xs) (suc p) l = past xs p (omega arith)

pub past_run : (n : ℕ) (r : Bool) (k p : ℕ) → k ≤ p → None ≡ slice_get (run n r k) p
past_run n r k p l = sym (past (run n r k) p (let e = run_length n r k in omega arith))

-- tests that decide whether a run has a number
pub rising_test : (first count number : ℕ) (r : Bool) → r ≡ true → first ≤ number → nat_lt number (first + count) ≡ has number (run first r count)
rising_test first count number r e l =
    subst (λ b. nat_lt number (first + count) ≡ has number (run first b count)) (sym e)
    (same_tests (nat_lt number (first + count)) (has number (run first true count)) (λ h. in_rising first count number l (ltb-true number (first + count) h)) (λ h. lt-ltb number (first + count) (rising_in first count number h).1))

pub rising_low : (first count number : ℕ) (r : Bool) → r ≡ true → number < first → nat_le first number ≡ has number (run first r count)
rising_low first count number r e l =
    subst (λ b. nat_le first number ≡ has number (run first b count)) (sym e)
    (same_tests (nat_le first number) (has number (run first true count)) (λ h. let q = leb-true first number h in absurd (omega (arith, q, l))) (λ h. let q = (rising_in first count number h).0 in absurd (omega (arith, q, l))))

pub flat_test : (first count number : ℕ) (r : Bool) → r ≡ false → 0 < count → nat_eq number first ≡ has number (run first r count)
flat_test first count number r e l =
    subst (λ b. nat_eq number first ≡ has number (run first b count)) (sym e)
    (same_tests (nat_eq number first) (has number (run first false count)) (λ h. in_flat first count number l (eqb-true number first h)) (λ h. eq-eqb number first (flat_in first count number h).1))

pub stayed_flat : (first number count : ℕ) (r : Bool) → number ≡ first → r ≡ false → run first false (count + 1) ≡ run first r count ++ number ∷ []
stayed_flat first number count r e q = stayed first number count r e (inr q)

pub rose_up : (first number count : ℕ) (r : Bool) → number ≡ first + count → r ≡ true → run first true (count + 1) ≡ run first r count ++ number ∷ []
rose_up first number count r e q = rose first number count r e (inr q)

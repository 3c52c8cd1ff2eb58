-- Names that differ, and names that are among others.
use Rattle.std.proofs.Common.{ℕ, ◌<◌, ◌≤◌, ◌+◌, ◌≡◌, List, [], ◌∷◌, ◌++◌, refl, arith, Bool, true, false, cond, bytes_eq, ◌⊎◌, inl, inr}
use Rattle.std.specs.Prelude.{nat_eq, not, ◌||◌}
use Rattle.std.specs.List.{range_with_len, list_all}
use Rattle.std.specs.Fmt.{decimal, digits}
use Rattle.std.proofs.lemmas.Fmt.{decimal_injective}
use Rattle.std.proofs.lemmas.Slice.Eq.{bytes_eq-Decides}
use Rattle.std.proofs.lemmas.Bool.Decides.{nat_tests, eqb_tells}
use Rattle.base_names.specs.Numbers.{has}
use Rattle.ir_generator.specs.Names.{global_name, test_name, file_name}
use Rattle.ir_generator.proofs.Proper.{at_each}
use Rattle.base_laws.proofs.Tests.{is_false}

pub unequal : (a b : List ℕ) → (a ≡ b → ⊥) → bytes_eq a b ≡ false
unequal a b h = is_false (bytes_eq a b) (λ e. h ((bytes_eq-Decides a b).0 e))

pub equal : (a : List ℕ) → bytes_eq a a ≡ true
equal a = (bytes_eq-Decides a a).1 refl

tails : (b : ℕ) (xs ys : List ℕ) → (b ∷ xs) ≡ (b ∷ ys) → xs ≡ ys
tails b xs ys e = cc

pub globals_differ : (m n : ℕ) → m < 200 → n < 200 → (m ≡ n → ⊥) → bytes_eq (global_name m) (global_name n) ≡ false
globals_differ m n a b h = unequal (global_name m) (global_name n) (λ e. h (decimal_injective m n (omega arith) (omega arith) (tails 103 (decimal m) (decimal n) e)))

pub tests_differ : (m n : ℕ) → m < 200 → n < 200 → (m ≡ n → ⊥) → bytes_eq (test_name m) (test_name n) ≡ false
tests_differ m n a b h = unequal (test_name m) (test_name n) (λ e. h (decimal_injective m n (omega arith) (omega arith) (tails 116 (decimal m) (decimal n) e)))

apart : list_all (λ m. list_all (λ n. nat_eq m n || not (bytes_eq (file_name m) (file_name n))) (range_with_len 0 16)) (range_with_len 0 16) ≡ true
unfolding digits
apart = refl

by_numbers : (b c : Bool) → (b || not c) ≡ true → b ≡ false → c ≡ false
by_numbers true c h k = cc
by_numbers false true h k = cc
by_numbers false false h k = refl

-- what a test of two numbers says
pub equal_numbers : (a b : ℕ) → nat_eq a b ≡ true → a ≡ b
equal_numbers a b h = grind (arith, nat_tests)

pub unequal_numbers : (a b : ℕ) → nat_eq a b ≡ false → a ≡ b → ⊥
unequal_numbers a b h e = grind (arith, nat_tests)

numbers_differ : (m n : ℕ) → (m ≡ n → ⊥) → nat_eq m n ≡ false
numbers_differ m n h = grind (arith, nat_tests)

pub files_differ : (m n : ℕ) → m < 16 → n < 16 → (m ≡ n → ⊥) → bytes_eq (file_name m) (file_name n) ≡ false
files_differ m n a b h =
    let row : list_all (λ k. nat_eq m k || not (bytes_eq (file_name m) (file_name k))) (range_with_len 0 16) ≡ true =
    at_each (λ j. list_all (λ k. nat_eq j k || not (bytes_eq (file_name j) (file_name k))) (range_with_len 0 16)) 0 16 m apart (omega arith) (omega arith) in
    by_numbers (nat_eq m n) (bytes_eq (file_name m) (file_name n)) (at_each (λ k. nat_eq m k || not (bytes_eq (file_name m) (file_name k))) 0 16 n row (omega arith) (omega arith)) (numbers_differ m n h)

-- a list of names
one_more : (b r s : Bool) → cond b true r ≡ false → (r ≡ false → s ≡ false) → cond b true s ≡ false
one_more true r s h f = h
one_more false r s h f = f h

one_true : (b r s : Bool) → cond b true r ≡ true → (r ≡ true → s ≡ true) → cond b true s ≡ true
one_true true r s h f = refl
one_true false r s h f = f h

pub absent_append : (xs ys : List (List ℕ)) (n : List ℕ) → has xs n ≡ false → has ys n ≡ false → has (xs ++ ys) n ≡ false
absent_append [] ys n h k = k
absent_append (x ∷ xs) ys n h k = one_more (bytes_eq x n) (has xs n) (has (xs ++ ys) n) h (λ e. absent_append xs ys n e k)

pub absent_behind : (xs : List (List ℕ)) (m n : List ℕ) → has xs n ≡ false → bytes_eq m n ≡ false → has (xs ++ m ∷ []) n ≡ false
absent_behind xs m n h k = absent_append xs (m ∷ []) n h (rw k refl)

pub there_left : (xs ys : List (List ℕ)) (n : List ℕ) → has xs n ≡ true → has (xs ++ ys) n ≡ true
there_left [] ys n h = cc
there_left (x ∷ xs) ys n h = one_true (bytes_eq x n) (has xs n) (has (xs ++ ys) n) h (λ e. there_left xs ys n e)

either_true : (b r : Bool) → r ≡ true → cond b true r ≡ true
either_true true r h = refl
either_true false r h = h

pub there_right : (xs ys : List (List ℕ)) (n : List ℕ) → has ys n ≡ true → has (xs ++ ys) n ≡ true
there_right [] ys n h = h
there_right (x ∷ xs) ys n h = either_true (bytes_eq x n) (has (xs ++ ys) n) (there_right xs ys n h)

pub there_behind : (m n : List ℕ) (xs : List (List ℕ)) → has xs n ≡ true → has (m ∷ xs) n ≡ true
there_behind m n xs h = either_true (bytes_eq m n) (has xs n) h

-- a property of what a test picks, by what the test says
pub by_test : {A : Type 0} (P : A → Type 0) (b : Bool) (x y : A) → (b ≡ true → P x) → (b ≡ false → P y) → P (cond b x y)
by_test P true x y p q = p refl
by_test P false x y p q = q refl

behind : (a k : ℕ) → k ≤ a → (a ≡ k → ⊥) → k + 1 ≤ a
behind a k h d = omega (arith, d)

-- the first number of some, or one behind it
pub here_or_later : (a k : ℕ) → k ≤ a → (a ≡ k) ⊎ (k + 1 ≤ a)
here_or_later a k h = elim (eqb_tells a k) [ inl e ↦ inl e.1 | inr d ↦ inr (behind a k h d.1) ]

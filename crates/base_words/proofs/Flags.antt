-- A comparison's flags and the conditions.
use Rattle.std.proofs.Common.{◌≡◌, ℕ, ◌+◌, ◌*◌, ◌/◌, ◌%◌, ◌^◌, ◌<◌, arith, true, false}
use Rattle.std.specs.Prelude.{nat_eq, nat_lt, nat_le, not}
use Rattle.std.proofs.lemmas.Bool.Decides.{nat_tests}
use Rattle.base_words.specs.Arithmetic.{signed_less, signed_at_most}
use Rattle.base_words.specs.declared.conditions.Flags.{Flags}
use Rattle.base_words.specs.Flags.{add_flags, compare_flags, holds}

pub equal_holds : (x y : ℕ) → x < 2 ^ 32 → y < 2 ^ 32 → holds 0 (compare_flags x y) ≡ nat_eq x y
unfolding holds add_flags
equal_holds x y hx hy = search (nat_tests, arith)

pub unequal_holds : (x y : ℕ) → x < 2 ^ 32 → y < 2 ^ 32 → holds 1 (compare_flags x y) ≡ not (nat_eq x y)
unfolding holds add_flags
unequal_holds x y hx hy = search (nat_tests, arith)

pub below_holds : (x y : ℕ) → x < 2 ^ 32 → y < 2 ^ 32 → holds 3 (compare_flags x y) ≡ nat_lt x y
unfolding holds add_flags
below_holds x y hx hy = search (nat_tests, arith)

pub at_most_holds : (x y : ℕ) → x < 2 ^ 32 → y < 2 ^ 32 → holds 9 (compare_flags x y) ≡ nat_le x y
unfolding holds add_flags
at_most_holds x y hx hy = search (nat_tests, arith)

pub signed_less_holds : (x y : ℕ) → x < 2 ^ 32 → y < 2 ^ 32 → holds 11 (compare_flags x y) ≡ signed_less x y
unfolding holds add_flags signed_less
signed_less_holds x y hx hy = search (nat_tests, arith)

pub signed_at_most_holds : (x y : ℕ) → x < 2 ^ 32 → y < 2 ^ 32 → holds 13 (compare_flags x y) ≡ signed_at_most x y
unfolding holds add_flags signed_at_most
signed_at_most_holds x y hx hy = search (nat_tests, arith)

-- below 14 an odd condition is the opposite of the even one below it
pub opposite_holds : (k : ℕ) (f : Flags) → k < 7 → holds (2 * k + 1) f ≡ not (holds (2 * k) f)
unfolding holds
opposite_holds k f h =
    let odd : nat_eq ((2 * k + 1) % 2) 1 ≡ true = grind (arith, nat_tests) in
    let even : nat_eq (2 * k % 2) 1 ≡ false = grind (arith, nat_tests) in
    let low : nat_lt (2 * k + 1) 14 ≡ true = grind (arith, nat_tests) in
    let a : (2 * k + 1) / 2 ≡ k = omega arith in
    let b : 2 * k / 2 ≡ k = omega arith in
    rw (odd, even, low, a, b)

-- Laws of 32-bit arithmetic.
use Rattle.std.proofs.Common.{◌≡◌, ℕ, zero, suc, ◌+◌, ◌-◌, ◌*◌, ◌/◌, ◌%◌, ◌^◌, ◌<◌, ◌≤◌, refl, sym, ap, ◌∙◌, arith, Bool, false, to_z, of_z, w32, add-zero, min, inl, inr}
use Rattle.std.specs.Prelude.{nat_eq, nat_lt, nat_le, ℤ, pos, negsuc, neg_ℤ, ◌+ℤ◌, ◌-ℤ◌, ◌*ℤ◌, int_div, int_rem, ◌⊎◌, bit_or, FitsSigned, if◌then◌else◌}
use Rattle.std.specs.Int.{bit_at, int_wrap, rotate_right as std_rotate_right}
use Rattle.std.specs.Int.Bits.{or_self, or_zero_r}
use lib.Signed.{shr_z, mag, mag_shr, mag_rem}
use Rattle.std.proofs.lemmas.Bool.{cases_lt}
use Rattle.std.proofs.lemmas.Bool.Decides.{nat_tests}
use Rattle.std.proofs.lemmas.Int.{ints, to_z-of_z, int_wrap_fits, int_wrap-mul_left, int_wrap-sub_right, wrapping_sub-bits, wrapping_mul-bits, quot-rem}
use Rattle.std.proofs.lemmas.Nat.{pow-add, shl-shr, shr-shr, shr_le, and_le_l, or_lt}
use Rattle.std.proofs.lemmas.Nat.Bits.{bit_at_cat_low, bit_at_above}
use Rattle.std.proofs.Math.Nat.{mul_assoc, mul-mod_left, div-eq_of_lt, div-le_self, mod-eq-sub-div-mul, mod-eq_of_lt, div-mul-le_self, pow-le-pow_right}
use Rattle.base_words.specs.Arithmetic.{word, subtract, multiply, moved, unsigned_quotient, signed_quotient, unsigned_remainder, signed_remainder, bit_clear, shift_amount, shift_left, shift_right, shift_right_signed, rotate_right, is_bit_set, shifted_left_carry, shifted_right_carry, signed_less, signed_at_most}

-- ---- shifts

shift_left_all_at : (x k : ℕ) → 32 ≤ k → x * 2 ^ k % 2 ^ 32 ≡ 0
shift_left_all_at x k h =
    let e : 2 ^ k ≡ 2 ^ (k - 32) * 2 ^ 32 = ap (λ q. 2 ^ q) (omega arith) ∙ pow-add 2 (k - 32) 32 in
    let f : x * (2 ^ (k - 32) * 2 ^ 32) ≡ x * 2 ^ (k - 32) * 2 ^ 32 = sym (mul_assoc x (2 ^ (k - 32)) (2 ^ 32)) in
    rw (e, f) (mul-mod_left (x * 2 ^ (k - 32)) (2 ^ 32))

pub shift_left_all : (x n : ℕ) → 32 ≤ shift_amount n → shift_left x n ≡ 0
unfolding shift_left
shift_left_all x n h = shift_left_all_at x (n % 256) h

pub shift_right_all : (x n : ℕ) → x < 2 ^ 32 → 32 ≤ shift_amount n → shift_right x n ≡ 0
unfolding shift_right
shift_right_all x n hx h = div-eq_of_lt (omega (arith, pow-le-pow_right {n = 2} (omega arith) {i = 32} {j = n % 256} h))

shr_z_all : (z : ℤ) (k : ℕ) → mag z < 2 ^ 31 → 31 ≤ k → shr_z z (2 ^ k) ≡ shr_z z (2 ^ 31)
shr_z_all (pos a) k h le =
    let p : 2 ^ 31 ≤ 2 ^ k = pow-le-pow_right {n = 2} (omega arith) {i = 31} {j = k} le in
    ap pos (div-eq_of_lt (omega arith) ∙ sym (div-eq_of_lt {n = a} {m = 2 ^ 31} (omega arith)))
shr_z_all (negsuc a) k h le =
    let p : 2 ^ 31 ≤ 2 ^ k = pow-le-pow_right {n = 2} (omega arith) {i = 31} {j = k} le in
    ap negsuc (div-eq_of_lt (omega arith) ∙ sym (div-eq_of_lt {n = a} {m = 2 ^ 31} (omega arith)))

shr_z_min : (z : ℤ) (k : ℕ) → mag z < 2 ^ 31 → shr_z z (2 ^ k) ≡ shr_z z (2 ^ min k 31)
shr_z_min z k h =
    elim (cases_lt k 31) [
      | inl lt ↦ let e : min k 31 ≡ k = omega arith in rw e
      | inr le ↦ let e : min k 31 ≡ 31 = omega arith in rw e (shr_z_all z k h le)
    ]

mag-to_z : (x : ℕ) → x < 2 ^ 32 → mag (to_z w32 x) < 2 ^ 31
mag-to_z x h = search (nat_tests, arith)

-- 31 places and more give the sign in every bit
pub shift_right_signed_is : (x n : ℕ) → x < 2 ^ 32 → shift_right_signed x n ≡ of_z w32 (shr_z (to_z w32 x) (2 ^ min (shift_amount n) 31))
unfolding shift_right_signed
shift_right_signed_is x n h = ap (of_z w32) (shr_z_min (to_z w32 x) (n % 256) (mag-to_z x h))

pub shift_right_signed_all : (x n : ℕ) → x < 2 ^ 32 → 31 ≤ shift_amount n → shift_right_signed x n ≡ (if nat_lt x (2 ^ 31) then 0 else 2 ^ 32 - 1)
unfolding shift_right_signed
shift_right_signed_all x n hx h =
    let e : min (n % 256) 31 ≡ 31 = omega arith in
    shift_right_signed_is x n hx ∙ rw e (search (nat_tests, arith))

rotate_right_at : (x m : ℕ) → x < 2 ^ 32 → m < 32 → bit_or (x / 2 ^ m) (x * 2 ^ ((32 - m) % 32) % 2 ^ 32) ≡ bit_or (x / 2 ^ m) (x * 2 ^ (32 - m) % 2 ^ 32)
rotate_right_at x zero h lt =
    let a : x / 2 ^ 0 ≡ x = omega arith in
    let b : x * 2 ^ 0 % 2 ^ 32 ≡ x = omega arith in
    let c : x * 2 ^ 32 % 2 ^ 32 ≡ 0 = omega arith in
    rw (a, b, c) (or_self x ∙ sym (or_zero_r x))
rotate_right_at x (suc m) h lt = let e : (32 - suc m) % 32 ≡ 32 - suc m = omega arith in rw e

-- as `u32::rotate_right` does it
pub rotate_right_is : (x n k : ℕ) → x < 2 ^ 32 → k ≡ shift_amount n → std_rotate_right w32 x k ≡ rotate_right x n
unfolding rotate_right
rotate_right_is x n k h e = rw e (rotate_right_at x (n % 256 % 32) h (omega arith))

-- ---- carries

bit_shifted : (x k : ℕ) → k ≤ 32 → x * 2 ^ k / 2 ^ 32 ≡ x / 2 ^ (32 - k)
bit_shifted x k h =
    let e : 32 ≡ k + (32 - k) = omega arith in
    ap (λ q. x * 2 ^ k / 2 ^ q) e ∙ sym (shr-shr (x * 2 ^ k) k (32 - k)) ∙ ap (λ q. q / 2 ^ (32 - k)) (shl-shr x k)

-- up to 32 places the carry is the last bit shifted out, and 0 beyond
pub shifted_left_carry_is : (x n : ℕ) (c : Bool) → 0 < shift_amount n → shift_amount n ≤ 32 → shifted_left_carry x n c ≡ is_bit_set x (32 - shift_amount n)
unfolding shifted_left_carry
shifted_left_carry_is x n c some most =
    let e : nat_eq (n % 256) 0 ≡ false = grind (arith, nat_tests) in
    rw (e, bit_shifted x (n % 256) most)

pub shifted_left_carry_all : (x n : ℕ) (c : Bool) → 32 < shift_amount n → shifted_left_carry x n c ≡ false
unfolding shifted_left_carry
shifted_left_carry_all x n c all =
    let e : nat_eq (n % 256) 0 ≡ false = grind (arith, nat_tests) in
    let b : bit_at (x * 2 ^ (n % 256)) 32 ≡ 0 = ap (λ q. bit_at q 32) (sym (add-zero (x * 2 ^ (n % 256)))) ∙ bit_at_cat_low x (n % 256) 0 32 all in
    rw (e, b)

pub shifted_right_carry_is : (x n : ℕ) (c : Bool) → 0 < shift_amount n → shifted_right_carry x n c ≡ is_bit_set x (shift_amount n - 1)
unfolding shifted_right_carry
shifted_right_carry_is x n c some = let e : nat_eq (n % 256) 0 ≡ false = grind (arith, nat_tests) in rw e

pub shifted_right_carry_all : (x n : ℕ) (c : Bool) → x < 2 ^ 32 → 32 < shift_amount n → shifted_right_carry x n c ≡ false
unfolding shifted_right_carry
shifted_right_carry_all x n c h all =
    let e : nat_eq (n % 256) 0 ≡ false = grind (arith, nat_tests) in
    let b : bit_at x (n % 256 - 1) ≡ 0 = bit_at_above x 32 (n % 256 - 1) h (omega arith) in
    rw (e, b)

-- ---- results are words

pub unsigned_quotient_fits : (x y : ℕ) → x < 2 ^ 32 → unsigned_quotient x y < 2 ^ 32
unfolding unsigned_quotient
unsigned_quotient_fits x y h = grind (arith, nat_tests, div-le_self)

pub signed_quotient_fits : (x y : ℕ) → signed_quotient x y < 2 ^ 32
unfolding signed_quotient
signed_quotient_fits x y = grind (arith, nat_tests)

pub unsigned_remainder_fits : (x y : ℕ) → unsigned_remainder x y < 2 ^ 32
unfolding unsigned_remainder
unsigned_remainder_fits x y = omega arith

pub signed_remainder_fits : (x y : ℕ) → signed_remainder x y < 2 ^ 32
unfolding signed_remainder
signed_remainder_fits x y = omega arith

pub bit_clear_fits : (x y : ℕ) → x < 2 ^ 32 → bit_clear x y < 2 ^ 32
unfolding bit_clear
bit_clear_fits x y h = omega (arith, and_le_l x (2 ^ 32 - 1 - y))

pub shift_left_fits : (x n : ℕ) → shift_left x n < 2 ^ 32
unfolding shift_left
shift_left_fits x n = omega arith

pub shift_right_fits : (x n : ℕ) → x < 2 ^ 32 → shift_right x n < 2 ^ 32
unfolding shift_right
shift_right_fits x n h = omega (arith, shr_le x (n % 256))

of_z_fits : (z : ℤ) → mag z < 2 ^ 31 → of_z w32 z < 2 ^ 32
of_z_fits (pos n) h = omega arith
of_z_fits (negsuc n) h = omega arith

pub shift_right_signed_fits : (x n : ℕ) → x < 2 ^ 32 → shift_right_signed x n < 2 ^ 32
unfolding shift_right_signed
shift_right_signed_fits x n h = of_z_fits (shr_z (to_z w32 x) (2 ^ (n % 256))) (omega (arith, mag_shr (to_z w32 x) (2 ^ (n % 256)), mag-to_z x h))

pub rotate_right_fits : (x n : ℕ) → x < 2 ^ 32 → rotate_right x n < 2 ^ 32
unfolding rotate_right
rotate_right_fits x n h = or_lt 32 (x / 2 ^ (n % 256 % 32)) (x * 2 ^ (32 - n % 256 % 32) % 2 ^ 32) (omega (arith, shr_le x (n % 256 % 32))) (omega arith)

-- ---- quotients and remainders

-- x itself where y is 0
pub unsigned_remainder_is : (x y : ℕ) → x < 2 ^ 32 → unsigned_remainder x y ≡ (if nat_eq y 0 then x else x % y)
unfolding unsigned_remainder unsigned_quotient
unsigned_remainder_is x y h = grind (arith, nat_tests, mod-eq-sub-div-mul, mod-eq_of_lt, div-mul-le_self)

pub unsigned_quotient_by_zero : (x : ℕ) → unsigned_quotient x 0 ≡ 0
unfolding unsigned_quotient
unsigned_quotient_by_zero x = refl

pub signed_quotient_by_zero : (x : ℕ) → signed_quotient x 0 ≡ 0
unfolding signed_quotient
signed_quotient_by_zero x = refl

pub signed_quotient_is : (x y : ℕ) → 0 < y → signed_quotient x y ≡ word (of_z w32 (int_div (to_z w32 x) (to_z w32 y)))
unfolding signed_quotient
signed_quotient_is x y h = let e : nat_eq y 0 ≡ false = grind (arith, nat_tests) in rw e

pub signed_quotient_least : signed_quotient 0x80000000 0xffffffff ≡ 0x80000000
unfolding signed_quotient
signed_quotient_least = refl

pub signed_remainder_by_zero : (x : ℕ) → x < 2 ^ 32 → signed_remainder x 0 ≡ x
unfolding signed_remainder signed_quotient
signed_remainder_by_zero x h = omega arith

-- ---- the remainder is the signed one

-- a signed quotient in 32 bits: only 2 ^ 31 does not fit
rewritten : (z : ℤ) → (FitsSigned w32 z) ⊎ (z ≡ pos (2 ^ 31)) → to_z w32 (word (of_z w32 z)) ≡ int_wrap w32 z
unfolding int_wrap
rewritten z (inl f) =
    let e : word (of_z w32 z) ≡ of_z w32 z = mod-eq_of_lt (of_z_fits z f.sfits) in
    rw e (to_z-of_z w32 z f ∙ sym (int_wrap_fits w32 z f))
rewritten z (inr e) = rw e refl

neg_fits : (q : ℕ) → q ≤ 2 ^ 31 → FitsSigned w32 (neg_ℤ (pos q))
neg_fits zero h = record { sfits = omega arith }
neg_fits (suc q) h = record { sfits = omega arith }

quotient_fits : (x d : ℤ) → FitsSigned w32 x → (FitsSigned w32 (int_div x d)) ⊎ (int_div x d ≡ pos (2 ^ 31))
quotient_fits (pos a) (pos b) f = inl (record { sfits = omega (arith, f.sfits, div-le_self a b) })
quotient_fits (pos a) (negsuc b) f = inl (neg_fits (a / suc b) (omega (arith, f.sfits, div-le_self a (suc b))))
quotient_fits (negsuc a) (pos b) f = inl (neg_fits (suc a / b) (omega (arith, f.sfits, div-le_self (suc a) b)))
quotient_fits (negsuc a) (negsuc b) f =
    let most : suc a / suc b ≤ 2 ^ 31 = omega (arith, f.sfits, div-le_self (suc a) (suc b)) in
    elim (cases_lt (suc a / suc b) (2 ^ 31)) [
      | inl lt ↦ inl (record { sfits = lt })
      | inr le ↦ inr (ap pos (omega arith))
    ]

less_part : (x p r : ℤ) → p +ℤ r ≡ x → x -ℤ p ≡ r
less_part x p r e = omega (arith, ints)

wrapped_rest : (x q d r : ℤ) → q *ℤ d +ℤ r ≡ x → FitsSigned w32 r → int_wrap w32 (x -ℤ int_wrap w32 (int_wrap w32 q *ℤ d)) ≡ r
wrapped_rest x q d r e f =
    ap (λ p. int_wrap w32 (x -ℤ p)) (int_wrap-mul_left w32 q d)
    ∙ int_wrap-sub_right w32 x (q *ℤ d)
    ∙ ap (int_wrap w32) (less_part x (q *ℤ d) r e)
    ∙ int_wrap_fits w32 r f

rest_in_words : (x y q : ℕ) (d : ℤ) → x < 2 ^ 32 → y < 2 ^ 32 → q < 2 ^ 32 → to_z w32 q ≡ int_wrap w32 d → to_z w32 (subtract x (multiply q y)) ≡ int_wrap w32 (to_z w32 x -ℤ int_wrap w32 (int_wrap w32 d *ℤ to_z w32 y))
rest_in_words x y q d hx hy hq e =
    wrapping_sub-bits w32 x (multiply q y) hx (omega arith)
    ∙ ap (λ p. int_wrap w32 (to_z w32 x -ℤ p)) (wrapping_mul-bits w32 q y hq hy ∙ ap (λ p. int_wrap w32 (p *ℤ to_z w32 y)) e)

pub signed_remainder_is : (x y : ℕ) → x < 2 ^ 32 → y < 2 ^ 32 → 0 < y → to_z w32 (signed_remainder x y) ≡ int_rem (to_z w32 x) (to_z w32 y)
unfolding signed_remainder
signed_remainder_is x y hx hy some =
    let fits : FitsSigned w32 (to_z w32 x) = record { sfits = mag-to_z x hx } in
    let rest : FitsSigned w32 (int_rem (to_z w32 x) (to_z w32 y)) = record { sfits = omega (arith, mag_rem (to_z w32 x) (to_z w32 y), mag-to_z x hx) } in
    let q : signed_quotient x y ≡ word (of_z w32 (int_div (to_z w32 x) (to_z w32 y))) = signed_quotient_is x y some in
    let e : to_z w32 (signed_quotient x y) ≡ int_wrap w32 (int_div (to_z w32 x) (to_z w32 y)) =
    ap (to_z w32) q ∙ rewritten (int_div (to_z w32 x) (to_z w32 y)) (quotient_fits (to_z w32 x) (to_z w32 y) fits) in
    rest_in_words x y (signed_quotient x y) (int_div (to_z w32 x) (to_z w32 y)) hx hy (signed_quotient_fits x y) e
    ∙ wrapped_rest (to_z w32 x) (int_div (to_z w32 x) (to_z w32 y)) (to_z w32 y) (int_rem (to_z w32 x) (to_z w32 y)) (quot-rem (to_z w32 x) (to_z w32 y)) rest

-- ---- orders and offsets

pub signed_less_is : (x y : ℕ) → x < 2 ^ 32 → y < 2 ^ 32 → signed_less x y ≡ nat_lt (word (x + 2 ^ 31)) (word (y + 2 ^ 31))
unfolding signed_less
signed_less_is x y hx hy = search (nat_tests, arith)

pub signed_at_most_is : (x y : ℕ) → x < 2 ^ 32 → y < 2 ^ 32 → signed_at_most x y ≡ nat_le (word (x + 2 ^ 31)) (word (y + 2 ^ 31))
unfolding signed_at_most
signed_at_most_is x y hx hy = search (nat_tests, arith)

-- the sum, where it is a word
pub moved_is : (a b : ℕ) (z : ℤ) → b < 2 ^ 32 → FitsSigned w32 z → pos a +ℤ z ≡ pos b → moved a z ≡ b
moved_is a b z h f e = omega (arith, ints)

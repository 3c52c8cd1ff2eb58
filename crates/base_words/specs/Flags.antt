-- The condition flags, and when a condition holds.
use Rattle.std.specs.Prelude.{ℕ, ◌+◌, ◌-◌, ◌/◌, ◌%◌, ◌^◌, Bool, true, false, not, ◌&&◌, nat_eq, nat_lt, if◌then◌else◌, ◌+ℤ◌, pos}
use Rattle.std.specs.Ordering.{int_eq}
use Rattle.std.proofs.Common.{to_z, w32}
use Rattle.base_words.specs.Arithmetic.{word}
use Rattle.base_words.specs.declared.conditions.Flags.{Flags}

-- AddWithCarry: the sum of two words and a carry in of 0 or 1
abbrev pub add_with_carry : ℕ → ℕ → ℕ → ℕ
add_with_carry x y c = word (x + y + c)

-- bit 31 of a word
abbrev pub is_negative : ℕ → Bool
is_negative r = not (nat_lt r (2 ^ 31))

-- AddWithCarry's flags: a carry where the result is not the unsigned sum, an overflow where it is not the signed sum
unfoldable pub add_flags : ℕ → ℕ → ℕ → Flags
add_flags x y c =
    let r = add_with_carry x y c in
    record {
      negative = is_negative r;
      is_zero = nat_eq r 0;
      carry = not (nat_eq r (x + y + c));
      overflow = not (int_eq (to_z w32 r) (to_z w32 x +ℤ to_z w32 y +ℤ pos c));
    }

-- the flags of CMP: of x + NOT(y) + 1
abbrev pub compare_flags : ℕ → ℕ → Flags
compare_flags x y = add_flags x (2 ^ 32 - 1 - y) 1

-- the flags after a result that sets N and Z alone
abbrev pub result_flags : Flags → ℕ → Flags
result_flags f r = record f { negative = is_negative r; is_zero = nat_eq r 0 }

-- two flags are equal
abbrev pub is_same : Bool → Bool → Bool
is_same true b = b
is_same false b = not b

-- the conditions of even number, by its upper three bits: EQ, CS, MI, VS, HI, GE, GT and AL, which always holds
abbrev pub even_condition : ℕ → Flags → Bool
even_condition k f =
    if nat_eq k 0 then f.is_zero
    else if nat_eq k 1 then f.carry
    else if nat_eq k 2 then f.negative
    else if nat_eq k 3 then f.overflow
    else if nat_eq k 4 then f.carry && not f.is_zero
    else if nat_eq k 5 then is_same f.negative f.overflow
    else if nat_eq k 6 then is_same f.negative f.overflow && not f.is_zero
    else true

-- ConditionPassed: an odd condition is the opposite of the even one below it, but for 15, which always holds
unfoldable pub holds : ℕ → Flags → Bool
holds k f =
    if nat_eq (k % 2) 1 && nat_lt k 14 then not (even_condition (k / 2) f) else even_condition (k / 2) f

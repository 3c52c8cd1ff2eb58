-- Arithmetic on 32-bit words: numbers below 2 ^ 32, read as signed ones by `to_z w32` (SInt) and written back by `of_z w32`.
use Rattle.std.specs.Prelude.{ℕ, ◌+◌, ◌*◌, ◌-◌, ◌/◌, ◌%◌, ◌^◌, Bool, nat_eq, if◌then◌else◌, min, bit_and, bit_or, ℤ, int_div, int_lt, int_le}
use Rattle.std.specs.Int.{bit_at}
use Rattle.std.proofs.Common.{to_z, of_z, w32}
use lib.Signed.{shr_z}

-- the low 32 bits
abbrev pub word : ℕ → ℕ
word n = n % 2 ^ 32

abbrev pub add : ℕ → ℕ → ℕ
add x y = word (x + y)

abbrev pub subtract : ℕ → ℕ → ℕ
subtract x y = word (x + (2 ^ 32 - y))

abbrev pub multiply : ℕ → ℕ → ℕ
multiply x y = word (x * y)

-- an address with a signed offset added
abbrev pub moved : ℕ → ℤ → ℕ
moved a z = word (a + of_z w32 z)

-- UDIV, rounded towards zero: 0 where the divisor is 0
unfoldable pub unsigned_quotient : ℕ → ℕ → ℕ
unsigned_quotient x y = if nat_eq y 0 then 0 else x / y

-- SDIV, rounded towards zero and cut to 32 bits: 0 where the divisor is 0
unfoldable pub signed_quotient : ℕ → ℕ → ℕ
signed_quotient x y = if nat_eq y 0 then 0 else word (of_z w32 (int_div (to_z w32 x) (to_z w32 y)))

-- what the quotient leaves of x
unfoldable pub unsigned_remainder : ℕ → ℕ → ℕ
unsigned_remainder x y = subtract x (multiply (unsigned_quotient x y) y)

unfoldable pub signed_remainder : ℕ → ℕ → ℕ
signed_remainder x y = subtract x (multiply (signed_quotient x y) y)

-- BIC: x AND NOT(y)
unfoldable pub bit_clear : ℕ → ℕ → ℕ
bit_clear x y = bit_and x (2 ^ 32 - 1 - y)

-- by how many places a register shifts: its low byte
abbrev pub shift_amount : ℕ → ℕ
shift_amount n = n % 256

-- LSL: x with zeros after it
unfoldable pub shift_left : ℕ → ℕ → ℕ
shift_left x n = word (x * 2 ^ shift_amount n)

-- LSR: x without its low bits
unfoldable pub shift_right : ℕ → ℕ → ℕ
shift_right x n = x / 2 ^ shift_amount n

-- ASR: the signed x without its low bits
unfoldable pub shift_right_signed : ℕ → ℕ → ℕ
shift_right_signed x n = of_z w32 (shr_z (to_z w32 x) (2 ^ shift_amount n))

-- ROR: LSR(x, m) OR LSL(x, 32 - m), where m is the amount modulo 32
unfoldable pub rotate_right : ℕ → ℕ → ℕ
rotate_right x n =
    let m = shift_amount n % 32 in
    bit_or (x / 2 ^ m) (word (x * 2 ^ (32 - m)))

-- bit i of x, as a test
abbrev pub is_bit_set : ℕ → ℕ → Bool
is_bit_set x i = nat_eq (bit_at x i) 1

-- the carry after LSL of x by n, where it was c: the last bit shifted out, which is bit 32 of x with n zeros after it
unfoldable pub shifted_left_carry : ℕ → ℕ → Bool → Bool
shifted_left_carry x n c =
    if nat_eq (shift_amount n) 0 then c else is_bit_set (x * 2 ^ shift_amount n) 32

-- after LSR: the last bit shifted out, 0 where n is above 32
unfoldable pub shifted_right_carry : ℕ → ℕ → Bool → Bool
shifted_right_carry x n c =
    if nat_eq (shift_amount n) 0 then c else is_bit_set x (shift_amount n - 1)

-- after ASR: the last bit shifted out of x with its sign repeated before it
unfoldable pub shifted_right_signed_carry : ℕ → ℕ → Bool → Bool
shifted_right_signed_carry x n c =
    if nat_eq (shift_amount n) 0 then c else is_bit_set x (min (shift_amount n - 1) 31)

-- after ROR: bit 31 of the result
unfoldable pub rotated_right_carry : ℕ → ℕ → Bool → Bool
rotated_right_carry x n c =
    if nat_eq (shift_amount n) 0 then c else is_bit_set (rotate_right x n) 31

unfoldable pub signed_less : ℕ → ℕ → Bool
signed_less x y = int_lt (to_z w32 x) (to_z w32 y)

unfoldable pub signed_at_most : ℕ → ℕ → Bool
signed_at_most x y = int_le (to_z w32 x) (to_z w32 y)

-- Operations on words give words, and a cut number has its width.
use Rattle.std.proofs.Common.{◌≡◌, ℕ, ◌*◌, ◌^◌, ◌<◌, Bool, true, false, arith}
use Rattle.std.proofs.lemmas.Nat.{and_le_l, or_lt, xor_lt}
use Rattle.base_words.specs.Bytes.{cut}
use Rattle.base_words.proofs.Bytes.{cut_is}
use Rattle.base_words.proofs.Arithmetic.{unsigned_quotient_fits, signed_quotient_fits, unsigned_remainder_fits, signed_remainder_fits, bit_clear_fits, shift_left_fits, shift_right_fits, shift_right_signed_fits}
use Rattle.ir_model.specs.declared.firmware.BinOp.{BinOp}
use Rattle.ir_model.specs.declared.firmware.BinOp.TheVariants.{Add, Sub, Mul, Udiv, Sdiv, Urem, Srem, And, Or, Xor, Bic, Shl, Shr, Sar}
use Rattle.ir_model.specs.Types.{PlainType, U8, U16, U32, Pointer, Array, Named, Callee, is_integer, width_of}
use Rattle.ir_model.specs.Step.{binary, bit}

pub binary_fits : (op : BinOp) (a b : ℕ) → a < 2 ^ 32 → b < 2 ^ 32 → binary op a b < 2 ^ 32
unfolding binary
binary_fits Add a b h g = omega arith
binary_fits Sub a b h g = omega arith
binary_fits Mul a b h g = omega arith
binary_fits Udiv a b h g = unsigned_quotient_fits a b h
binary_fits Sdiv a b h g = signed_quotient_fits a b
binary_fits Urem a b h g = unsigned_remainder_fits a b
binary_fits Srem a b h g = signed_remainder_fits a b
binary_fits And a b h g = omega (arith, and_le_l a b)
binary_fits Or a b h g = or_lt 32 a b h g
binary_fits Xor a b h g = xor_lt 32 a b h g
binary_fits Bic a b h g = bit_clear_fits a b h
binary_fits Shl a b h g = shift_left_fits a b
binary_fits Shr a b h g = shift_right_fits a b h
binary_fits Sar a b h g = shift_right_signed_fits a b h

pub bit_fits : (b : Bool) → bit b < 2 ^ 32
bit_fits true = omega arith
bit_fits false = omega arith

pub cut_fits : (t : PlainType) (n : ℕ) → is_integer t ≡ true → cut (width_of t) n < 2 ^ (8 * width_of t)
cut_fits U8 n h = let e = cut_is 1 n in omega arith
cut_fits U16 n h = let e = cut_is 2 n in omega arith
cut_fits U32 n h = let e = cut_is 4 n in omega arith
cut_fits (Pointer t) n h = cc
cut_fits (Array k t) n h = cc
cut_fits (Named s) n h = cc
cut_fits (Callee a r) n h = cc

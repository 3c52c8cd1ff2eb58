-- Up to 32 places the carry is the bit that the code reads.
use Rattle.std.proofs.Common.{◌-◌, ◌%◌, sym, arith}
use Rattle.std.proofs.lemmas.Nat.Bits.{shr_and_one}
use Rattle.base_words.proofs.Arithmetic.{shifted_left_carry_is}
use Rattle.base_words.proofs.operations.shifted_left_carry.Goals as goal

pub returns-in-1-to-32 : goal.returns-in-1-to-32
returns-in-1-to-32 c =
    rw (shr_and_one c.args.value (32 - c.args.amount % 256))
    (sym (shifted_left_carry_is c.args.value c.args.amount c.args.carry (omega arith) (omega arith)))

use Rattle.std.proofs.Common.{refl}
use Rattle.need_numbers.proofs.WordBits.{bit_set}
use Rattle.need_numbers.proofs.bits.set_bit.Goals as goal

pub returns : goal.returns
returns c = bit_set c.args.words.now.items c.args.number c.index_mut.result.now _ c.requires c.index_mut.ensures.value refl

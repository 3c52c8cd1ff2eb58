use Rattle.std.proofs.Common.{take}
use Rattle.need_numbers.proofs.WordBits.{bits_more, bits_alike, take_one, all_taken}
use Rattle.need_numbers.proofs.bits.bits_of.Goals as goal

pub loop-number-preserved : goal.loop-number-preserved
loop-number-preserved c =
    let ns = c.args.numbers.now in
    let t = take_one ns c.loop-number.place c.in_ok-place.place c.in-Some.number c.get.result c.get.ensures c.in-Some.is c.in_ok-place.ensures in
    record {
      bits =
          bits_more (take c.loop-number.place ns) c.make_room.new.words.items (take c.in_ok-place.place ns) c.set_bit.new.words.items c.in-Some.number
          (bits_alike (take c.loop-number.place ns) c.loop-number.words.items c.make_room.new.words.items c.loop-number.invariant.bits c.make_room.ensures.same) t.0 c.set_bit.ensures;
      upto = t.1;
    }

pub returns : goal.returns
returns c = all_taken c.args.numbers.now c.loop-number.words.items c.loop-number.place c.get.result c.loop-number.invariant.bits c.get.ensures c.in_default.is

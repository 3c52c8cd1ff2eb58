use Rattle.std.proofs.Common.{ap, arith, length}
use Rattle.need_sets.proofs.Counted.{object_groups_are}
use Rattle.need_sets.proofs.numbers.objects_of.Goals as goal

pub returns : goal.returns
returns c = let e = ap length c.as_slice-func-items.ensures in object_groups_are c.args.program.now c.push-3.new.self c.loop-func.groups c.in_ok-in_32_bits-4.field-0 c.loop-func.func-index c.in_ok-push-4.ensures.grows (omega arith) (omega arith) c.loop-func.invariant

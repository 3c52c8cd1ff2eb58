use Rattle.std.proofs.Common.{ap, arith, length}
use Rattle.need_sets.proofs.Counted.{node_groups_are}
use Rattle.need_sets.proofs.numbers.nodes_of.Goals as goal

pub returns : goal.returns
returns c = let e = ap length c.as_slice-func-items.ensures in node_groups_are c.args.program.now c.push-3.new.self c.loop-func.groups c.push-2.new.self c.args.objects c.in_ok-in_32_bits-2.field-0 c.loop-func.func-index c.in_ok-push-3.ensures.grows c.in_ok-push-2.ensures.grows (omega arith) (omega arith) c.loop-func.invariant

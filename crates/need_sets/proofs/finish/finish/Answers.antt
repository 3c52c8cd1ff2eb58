use Rattle.std.proofs.Common.{◌≡◌, ◌∙◌, sym, subst, arith}
use Rattle.ir_laws.specs.Sets.{Node}
use Rattle.ir_model.specs.State.{Object}
use Rattle.ir_program.specs.Seen.{program_of}
use Rattle.need_sets.specs.Numbers.{numbering_of}
use Rattle.need_sets.specs.Sets.{Sets, sets_of}
use Rattle.need_sets.specs.Pairs.{sets_by}
use Rattle.need_sets.proofs.Finished.{one_pushed, in_order, sets_are}
use Rattle.need_sets.proofs.finish.finish.Goals as goal

pub loop-node-preserved : goal.loop-node-preserved
loop-node-preserved c =
    one_pushed c.in_ok-by_number.by_number.items c.as_slice.result.now c.args.lists.now c.as_slice-in-loop-node.result.now c.loop-node.node c.loop-node.rows c.push.new.self c.in_ok-objects.objects.items
    c.as_slice.ensures.value (c.as_slice-in-loop-node.ensures.value ∙ c.in_ok-places.ensures) c.in_ok-push.ensures.pushed c.loop-node.invariant c.in_ok-objects.ensures

pub new-requires-2 : goal.new-requires-2
new-requires-2 c = in_order c.in_ok-by_number.by_number.items c.args.lists.now c.loop-node.node c.loop-node.rows c.loop-node.invariant

pub returns-clause-exact : goal.returns-clause-exact
returns-clause-exact c =
    subst (λ (s : Sets). (n : Node) (o : Object) → sets_of s n o ≡ sets_by (numbering_of (program_of c.args.program.now)) c.args.lists.now n o) (sym c.new-2.ensures)
    (sets_are c.in_ok-numbering.numbering (numbering_of (program_of c.args.program.now)) c.in_ok-by_number.by_number.items c.args.lists.now c.loop-node.rows c.loop-node.node
    c.in_ok-numbering.ensures c.in_ok-by_number.ensures.by_number c.in_ok-by_number.ensures.count c.requires.objects c.loop-node.invariant (omega arith))

use Rattle.std.proofs.Common.{◌≡◌, false, take}
use Rattle.plan_model.specs.Needs.{has_object}
use Rattle.plan_graph.proofs.reach.is_among.Given as goal

abbrev pub invariant-loop-i : goal.invariant-loop-i
invariant-loop-i l = has_object (take l.i l.objects) l.object ≡ false

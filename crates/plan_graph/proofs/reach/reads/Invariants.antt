use Rattle.std.proofs.Common.{◌≡◌, ◌&&◌, false, nat_eq}
use Rattle.std.specs.List.{list_any}
use Rattle.plan_model.specs.Groups.{compartment_of}
use Rattle.plan_model.specs.Lists.{numbers_below}
use Rattle.plan_model.specs.Needs.{has_object, need_of}
use Rattle.plan_graph.proofs.reach.reads.Given as goal

abbrev pub invariant-loop-func : goal.invariant-loop-func
invariant-loop-func l = list_any (λ f. nat_eq (compartment_of l.groups f) l.compartment && has_object (need_of l.needs f).read l.object) (numbers_below l.func) ≡ false

use Rattle.std.proofs.Common.{◌≡◌, ◌&&◌, false, nat_eq}
use Rattle.std.specs.List.{list_any}
use Rattle.plan_model.specs.Groups.{compartment_of}
use Rattle.plan_model.specs.Lists.{numbers_below, has}
use Rattle.plan_model.specs.Needs.{need_of}
use Rattle.plan_graph.proofs.reach.uses.Given as goal

abbrev pub invariant-loop-func : goal.invariant-loop-func
invariant-loop-func l = list_any (λ f. nat_eq (compartment_of l.groups f) l.compartment && has (need_of l.needs f).periphs l.periph) (numbers_below l.func) ≡ false

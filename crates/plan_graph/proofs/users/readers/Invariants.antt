use Rattle.std.proofs.Common.{◌≡◌, filter}
use Rattle.ir_model.specs.declared.object.ObjId.TheVariants.{Global}
use Rattle.plan_model.specs.Groups.{reads}
use Rattle.plan_model.specs.Lists.{numbers_below}
use Rattle.plan_graph.proofs.users.readers.Given as goal

abbrev pub invariant-loop-compartment : goal.invariant-loop-compartment
invariant-loop-compartment l = l.readers.items ≡ filter (λ c. reads l.needs l.groups c (Global l.global)) (numbers_below l.compartment)

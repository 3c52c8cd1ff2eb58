use Rattle.std.proofs.Common.{◌≡◌, filter}
use Rattle.ir_model.specs.declared.object.ObjId.TheVariants.{Global}
use Rattle.plan_model.specs.Groups.{writes}
use Rattle.plan_model.specs.Lists.{numbers_below}
use Rattle.plan_graph.proofs.users.writers.Given as goal

abbrev pub invariant-loop-compartment : goal.invariant-loop-compartment
invariant-loop-compartment l = l.writers.items ≡ filter (λ c. writes l.needs l.groups c (Global l.global)) (numbers_below l.compartment)

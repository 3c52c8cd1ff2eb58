use Rattle.std.proofs.Common.{◌≡◌, map}
use Rattle.plan_model.specs.Lists.{numbers_below}
use Rattle.code_model.specs.CompartmentCode.{members_from}
use Rattle.plan_crossings.specs.Filled.{filled_total}
use Rattle.plan_sizes.proofs.functions.code_bytes.Given as goal

abbrev pub invariant-loop-compartment : goal.invariant-loop-compartment
invariant-loop-compartment l = l.code.items ≡ map (λ c. filled_total l.all (members_from 0 l.compartments c)) (numbers_below l.compartment)

use Rattle.std.proofs.Common.{◌≡◌, take}
use Rattle.code_model.specs.CompartmentCode.{members_from}
use Rattle.plan_crossings.specs.Filled.{filled_total}
use Rattle.plan_crossings.proofs.filled.bytes_before.Given as goal

abbrev pub invariant-loop-other : goal.invariant-loop-other
invariant-loop-other l =
    l.total ≡ filled_total l.sizes (members_from 0 (take l.other l.compartments) l.compartment)

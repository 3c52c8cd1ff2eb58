use Rattle.std.proofs.Common.{◌≡◌, ◌^◌, ◌≤◌, max, drop}
use Rattle.monitor_model.specs.Layout.{greatest_code}
use Rattle.monitor_constants.proofs.sizes.greatest_code.Given as goal

abbrev pub invariant-loop-compartment : goal.invariant-loop-compartment
invariant-loop-compartment l =
    record {
      greatest : max l.size (greatest_code (drop l.compartment-index l.comps)) ≡ greatest_code l.comps;
      small : l.size ≤ 2 ^ 32;
    }

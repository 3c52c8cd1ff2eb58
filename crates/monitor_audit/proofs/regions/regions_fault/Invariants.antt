use Rattle.std.proofs.Common.{◌≡◌, ◌+◌, ◌*◌, drop}
use Rattle.monitor_model.specs.Layout.{compartments_at, compartment_size}
use Rattle.monitor_model.specs.RegionChecks.{is_compartment}
use Rattle.monitor_model.specs.Checks.{each_record}
use Rattle.monitor_audit.proofs.regions.regions_fault.Given as goal

-- what is left decides
abbrev pub invariant-loop-compartment : goal.invariant-loop-compartment
invariant-loop-compartment l = record {
  left : each_record (is_compartment l.image l.tables) l.at (compartment_size l.tables) (drop l.compartment-index l.compartment-items) ≡ each_record (is_compartment l.image l.tables) (compartments_at l.tables) (compartment_size l.tables) l.compartment-items;
  place : l.at ≡ compartments_at l.tables + compartment_size l.tables * l.compartment-index;
}

use Rattle.std.proofs.Common.{◌≡◌, ◌+◌, drop}
use Rattle.monitor_model.specs.RegionChecks.{are_slots}
use Rattle.monitor_audit.proofs.regions.are_slots.Given as goal

-- what is left decides
abbrev pub invariant-loop-index : goal.invariant-loop-index
invariant-loop-index l = are_slots l.image l.tables (4 + l.index) (drop l.index l.slots) ≡ are_slots l.image l.tables 4 l.slots

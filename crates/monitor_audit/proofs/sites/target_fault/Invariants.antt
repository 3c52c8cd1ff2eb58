use Rattle.std.proofs.Common.{◌≡◌, ◌+◌, ◌*◌, drop}
use Rattle.monitor_model.specs.Checks.{each_record, is_target}
use Rattle.monitor_audit.proofs.sites.target_fault.Given as goal

-- what is left decides
abbrev pub invariant-loop-target : goal.invariant-loop-target
invariant-loop-target l = record { left : each_record (is_target l.tables) l.at 8 (drop l.target-index l.target-items) ≡ each_record (is_target l.tables) l.start 8 l.target-items; place : l.at ≡ l.start + 8 * l.target-index }

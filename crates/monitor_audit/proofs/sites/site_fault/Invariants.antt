use Rattle.std.proofs.Common.{◌≡◌, ◌+◌, ◌*◌, drop}
use Rattle.monitor_model.specs.Checks.{each_record, is_site}
use Rattle.monitor_audit.proofs.sites.site_fault.Given as goal

-- what is left decides
abbrev pub invariant-loop-site : goal.invariant-loop-site
invariant-loop-site l = record { left : each_record (is_site l.tables) l.at 12 (drop l.site-index l.site-items) ≡ each_record (is_site l.tables) l.start 12 l.site-items; place : l.at ≡ l.start + 12 * l.site-index }

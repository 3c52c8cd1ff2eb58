use Rattle.std.proofs.Common.{◌≡◌, ◌+◌, drop}
use Rattle.monitor_model.specs.Checks.{difference}
use Rattle.monitor_audit.proofs.page.code_fault.Given as goal

-- what is left decides
abbrev pub invariant-loop-index : goal.invariant-loop-index
invariant-loop-index l = record { left : difference (drop l.index l.wanted) (drop l.index l.flash) l.at ≡ difference l.wanted l.flash l.base; place : l.at ≡ l.base + l.index }

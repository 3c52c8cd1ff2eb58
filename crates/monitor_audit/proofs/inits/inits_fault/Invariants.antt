use Rattle.std.proofs.Common.{◌≡◌, ◌+◌, ◌*◌, ◌^◌, ◌≤◌, drop}
use Rattle.monitor_model.specs.Layout.{initial_words_at, inits_at}
use Rattle.monitor_model.specs.Checks.{inits_from}
use Rattle.monitor_audit.proofs.inits.inits_fault.Given as goal

-- what is left decides
abbrev pub invariant-loop-init : goal.invariant-loop-init
invariant-loop-init l = record {
  left : inits_from l.image l.tables l.words l.at (drop l.init-index l.init-items) ≡ inits_from l.image l.tables (initial_words_at l.tables) (inits_at l.tables) l.init-items;
  place : l.at ≡ inits_at l.tables + 12 * l.init-index;
  low : l.words ≤ 2 ^ 32 + 2 ^ 32 * l.init-index;
}

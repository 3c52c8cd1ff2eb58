use Rattle.std.proofs.Common.{◌≡◌, ◌++◌, take, flat_map}
use Rattle.aces_audit.specs.TableLines.{fill_line}
use Rattle.aces_audit.proofs.records.put_fills.Given as goal

abbrev pub invariant-loop-i : goal.invariant-loop-i
invariant-loop-i l = l.text ≡ l.initial.text ++ flat_map fill_line (take l.i l.tables.inits)

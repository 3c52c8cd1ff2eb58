use Rattle.std.proofs.Common.{◌≡◌, ◌++◌, take, flat_map}
use Rattle.aces_audit.specs.TableLines.{target_text}
use Rattle.aces_audit.proofs.records.put_targets.Given as goal

abbrev pub invariant-loop-i : goal.invariant-loop-i
invariant-loop-i l = l.text ≡ l.initial.text ++ flat_map target_text (take l.i l.targets)

use Rattle.std.proofs.Common.{◌≡◌, ◌++◌, map, filter, take}
use Rattle.plan_report.specs.Names.{spaced}
use Rattle.aces_audit.specs.SlotLines.{lies_in, window_name}
use Rattle.aces_audit.proofs.slots.put_names.Given as goal

abbrev pub invariant-loop-window : goal.invariant-loop-window
invariant-loop-window l = l.text ≡ l.initial.text ++ spaced (map window_name (filter (lies_in l.region) (take l.window-index l.windows)))

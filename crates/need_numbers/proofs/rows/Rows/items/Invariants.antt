use Rattle.std.proofs.Common.{◌≡◌, ◌-◌, ◌^◌, ◌≤◌, length, take}
use Rattle.need_numbers.specs.Rows.{row}
use Rattle.need_numbers.proofs.rows.Rows.items.Given as goal

abbrev pub invariant-loop-item : goal.invariant-loop-item
invariant-loop-item l = record { items : l.items.items ≡ take l.place (row l.self l.list); upto : l.place ≤ length (row l.self l.list) }

abbrev pub decreases-loop-item : goal.decreases-loop-item
decreases-loop-item l = 2 ^ 32 - l.place

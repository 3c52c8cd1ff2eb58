use Rattle.std.proofs.Common.{◌≡◌, false, take}
use Rattle.need_numbers.specs.Rows.{has}
use Rattle.need_numbers.specs.Stretches.{joined}
use Rattle.need_numbers.proofs.numbers.Numbers.contains.Given as goal

abbrev pub invariant-loop-place : goal.invariant-loop-place
invariant-loop-place l = has l.number (joined (take l.place l.self-inside.stretches.items)) ≡ false

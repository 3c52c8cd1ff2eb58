use Rattle.std.proofs.Common.{◌-◌, ◌^◌, ◌≤◌, length, take}
use Rattle.need_numbers.specs.Stretches.{AreBitsOf}
use Rattle.need_numbers.proofs.bits.bits_of.Given as goal

abbrev pub invariant-loop-number : goal.invariant-loop-number
invariant-loop-number l = record { bits : AreBitsOf (take l.place l.numbers) l.words.items; upto : l.place ≤ length l.numbers }

abbrev pub decreases-loop-number : goal.decreases-loop-number
decreases-loop-number l = 2 ^ 32 - l.place

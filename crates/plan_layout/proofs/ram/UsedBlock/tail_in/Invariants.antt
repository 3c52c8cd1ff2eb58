use Rattle.std.proofs.Common.{◌≡◌, ℕ, ◌<◌, false, get_or}
use Rattle.plan_model.specs.RamPlacement.{fits}
use Rattle.plan_layout.specs.declared.ram.Tail.{Tail}
use Rattle.plan_layout.specs.Filling.{tail_seen}
use Rattle.plan_layout.proofs.ram.UsedBlock.tail_in.Given as goal

abbrev pub invariant-loop-number : goal.invariant-loop-number
invariant-loop-number l = (k : ℕ) (d : Tail) → k < l.number → fits l.self.size (tail_seen (get_or l.tails k d)) ≡ false

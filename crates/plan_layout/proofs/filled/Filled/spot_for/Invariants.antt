use Rattle.std.proofs.Common.{◌≡◌, ℕ, ◌<◌, false, get_or}
use Rattle.plan_model.specs.RamBlocks.{same_use}
use Rattle.plan_layout.specs.declared.filled.Located.{Located}
use Rattle.plan_layout.specs.Filling.{use_seen}
use Rattle.plan_layout.proofs.filled.Filled.spot_for.Given as goal

abbrev pub invariant-loop-located : goal.invariant-loop-located
invariant-loop-located l = (k : ℕ) (d : Located) → k < l.located-index → same_use (use_seen (get_or l.self.blocks.items k d).purpose) (use_seen l.purpose) ≡ false

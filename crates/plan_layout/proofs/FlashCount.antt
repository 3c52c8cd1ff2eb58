-- How many blocks flash has.
use Rattle.std.proofs.Common.{◌≡◌, ◌+◌, length, sym, add-one}
use Rattle.plan_model.specs.declared.plan.Sizes.{Sizes}
use Rattle.plan_model.specs.FlashPlacement.{flash_blocks, code_blocks}

pub flash_count : (s : Sizes) → length (flash_blocks s) ≡ length (code_blocks s) + 1
unfolding flash_blocks
flash_count s = sym (add-one (length (code_blocks s)))

use Rattle.std.proofs.Common.{◌≡◌, ◌+◌, map}
use Rattle.plan_model.specs.Lists.{numbers_below}
use Rattle.plan_model.specs.FlashPlacement.{flash_spot}
use Rattle.plan_layout.proofs.flash.code_spots.Given as goal

abbrev pub invariant-loop-number : goal.invariant-loop-number
invariant-loop-number l = l.spots.items ≡ map (λ c. flash_spot l.base l.blocks (c + 1)) (numbers_below l.number)

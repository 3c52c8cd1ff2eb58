use Rattle.std.proofs.Common.{◌≡◌, map}
use Rattle.plan_model.specs.Lists.{numbers_below}
use Rattle.aces_explain.specs.Blocks.{numbered_at}
use Rattle.aces_explain.proofs.flash.numbered_blocks.Given as goal

abbrev pub invariant-loop-number : goal.invariant-loop-number
invariant-loop-number l = l.blocks.items ≡ map (numbered_at l.sizes) (numbers_below l.number)

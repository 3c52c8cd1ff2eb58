use Rattle.std.proofs.Common.{◌≡◌, map}
use Rattle.plan_model.specs.Lists.{numbers_below}
use Rattle.image_symbols.proofs.Parts.{lying_at}
use Rattle.image_symbols.proofs.rising.numbered.Given as goal

abbrev pub invariant-loop-place : goal.invariant-loop-place
invariant-loop-place l = l.all.items ≡ map (lying_at l.addresses) (numbers_below l.place)

use Rattle.std.proofs.Common.{◌≡◌, ◌+◌, drop, sum_by}
use Rattle.plan_model.specs.declared.plan.Spot.{Spot}
use Rattle.image_linker.proofs.flash.flash_size.Given as goal

-- what was made and what is left are the whole
abbrev pub invariant-loop-spot : goal.invariant-loop-spot
invariant-loop-spot l =
    l.total + sum_by (λ (s : Spot). s.size) (drop l.spot-index l.plan.code) ≡ l.plan.tables.size + sum_by (λ (s : Spot). s.size) l.plan.code

use Rattle.monitor_steps.specs.Runs.{GoodBy, AllowedBy}
use Rattle.monitor_steps.proofs.Runs.{Laws, effect_of_code}
use Rattle.monitor_steps.proofs.laws.code_has_effect.Goals as goal

pub returns : goal.returns
returns c =
    let shape = c.shapes.ensures in
    let compared = c.comparisons.ensures in
    let laws : Laws = record { keeps_shape = shape.of_steps; equal = compared.equal; unequal = compared.unequal; below = compared.below; at_most = compared.at_most } in
    λ j i good allowed. effect_of_code j i (GoodBy good) (AllowedBy allowed) laws

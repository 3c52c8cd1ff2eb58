use Rattle.code_effects.proofs.Comparisons.{Conditions, comparison_effects}
use Rattle.code_effects.proofs.laws.comparisons.Goals as goal

pub returns : goal.returns
returns c =
    let e = c.comparisons.ensures in
    let cs : Conditions = record { equal = e.equal; unequal = e.unequal; below = e.below; at_most = e.at_most; signed_below = e.signed_below; signed_at_most = e.signed_at_most } in
    comparison_effects cs

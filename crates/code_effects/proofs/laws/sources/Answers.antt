use Rattle.code_effects.proofs.Comparisons.{Conditions}
use Rattle.code_effects.proofs.Sources.{source_effects}
use Rattle.code_effects.proofs.laws.sources.Goals as goal

pub returns : goal.returns
returns c =
    let e = c.comparisons.ensures in
    let cs : Conditions = record { equal = e.equal; unequal = e.unequal; below = e.below; at_most = e.at_most; signed_below = e.signed_below; signed_at_most = e.signed_at_most } in
    source_effects cs

use Rattle.image_promises.proofs.Facts.{PlanLaws}
use Rattle.image_promises.proofs.Targets.{TargetLaws, targets_are_there}
use Rattle.image_promises.proofs.sites.targets.Goals as goal

pub returns : goal.returns
returns c =
    let plans : PlanLaws = record { flash = c.flash.ensures; apart = c.ram.ensures; there = c.places.ensures.there; inside = c.places.ensures.inside } in
    let law : TargetLaws = record { plans = plans; placed = c.code.ensures; counts = c.counts.ensures; typing = c.places-2.ensures } in
    targets_are_there law

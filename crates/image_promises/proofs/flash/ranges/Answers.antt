use Rattle.image_promises.proofs.PlannedPremises.{planned_of}
use Rattle.image_promises.proofs.Facts.{PlanLaws}
use Rattle.image_promises.proofs.Ranges.{ranges_are_apart}
use Rattle.image_promises.proofs.flash.ranges.Goals as goal

pub returns : goal.returns
returns c =
    let law : PlanLaws = record { flash = c.flash.ensures; apart = c.ram.ensures; there = c.places.ensures.there; inside = c.places.ensures.inside } in
    λ w n f b ok. ranges_are_apart law (planned_of ok)

use Rattle.image_promises.proofs.PlannedPremises.{planned_of}
use Rattle.image_promises.proofs.Facts.{PlanLaws}
use Rattle.image_promises.proofs.ReadBack.{ReadLaws}
use Rattle.image_promises.proofs.InitChecks.{inits_pass}
use Rattle.image_promises.proofs.initial.inits.Goals as goal

pub returns : goal.returns
returns c =
    let plans : PlanLaws = record { flash = c.flash.ensures; apart = c.ram.ensures; there = c.places.ensures.there; inside = c.places.ensures.inside } in
    let law : ReadLaws = record { plans = plans; code = c.compartments.ensures; counts = c.counts.ensures; pages = c.page_is_full.ensures.full } in
    λ w n f b ok. inits_pass law c.places-2.ensures c.globals.ensures.laid (planned_of ok)

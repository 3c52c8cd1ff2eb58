use Rattle.image_promises.proofs.PlannedPremises.{planned_of}
use Rattle.image_promises.proofs.Facts.{PlanLaws}
use Rattle.image_promises.proofs.GlobalPlaces.{GlobalLaws}
use Rattle.image_promises.proofs.GlobalsBegin.{globals_begin}
use Rattle.image_promises.proofs.initial.globals_begin.Goals as goal

pub returns : goal.returns
returns c =
    let plans : PlanLaws = record { flash = c.flash.ensures; apart = c.ram.ensures; there = c.places.ensures.there; inside = c.places.ensures.inside } in
    let law : GlobalLaws = record { plans = plans; laid = c.globals.ensures.laid; held = c.globals.ensures.held } in
    λ code w n f b ok. globals_begin law c.counts.ensures c.places-2.ensures c.flash_has.ensures code (planned_of ok)

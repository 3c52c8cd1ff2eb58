use Rattle.image_promises.proofs.Facts.{PlanLaws}
use Rattle.image_promises.proofs.StubPlace.{stub_is_placed}
use Rattle.image_promises.proofs.code.stub.Goals as goal

pub returns : goal.returns
returns c =
    let plans : PlanLaws = record { flash = c.flash.ensures; apart = c.ram.ensures; there = c.places.ensures.there; inside = c.places.ensures.inside } in
    stub_is_placed plans c.page_is_full.ensures.fits c.page_is_full.ensures.stub

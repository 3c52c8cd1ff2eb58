use Rattle.image_promises.proofs.Facts.{PlanLaws}
use Rattle.image_promises.proofs.PageStands.{page_is_exact, code_passes}
use Rattle.image_promises.proofs.code.page.Goals as goal

pub returns : goal.returns
returns c =
    let plans : PlanLaws = record { flash = c.flash.ensures; apart = c.ram.ensures; there = c.places.ensures.there; inside = c.places.ensures.inside } in
    let fits = c.page_is_full.ensures.fits in
    let law = c.first_halfword_shows_length.ensures in
    record {
      exact = page_is_exact c.flash_has.ensures law fits;
      passes = code_passes plans c.flash_has.ensures law fits c.page_is_full.ensures.full;
    }

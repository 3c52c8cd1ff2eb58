use Rattle.image_promises.proofs.Facts.{PlanLaws}
use Rattle.image_promises.proofs.ReadBack.{ReadLaws}
use Rattle.image_promises.proofs.AreaWords.{WordLaws, tables_read_back}
use Rattle.image_promises.proofs.tables.tables.Goals as goal

pub returns : goal.returns
returns c =
    let plans : PlanLaws = record { flash = c.flash.ensures; apart = c.ram.ensures; there = c.places.ensures.there; inside = c.places.ensures.inside } in
    let read : ReadLaws = record { plans = plans; code = c.compartments.ensures; counts = c.counts.ensures; pages = c.page_is_full.ensures.full } in
    let law : WordLaws = record { read = read; typing = c.places-2.ensures; sizes = c.sizes.ensures; windows = c.windows.ensures } in
    tables_read_back law c.flash_has.ensures

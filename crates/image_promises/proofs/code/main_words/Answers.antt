use Rattle.image_promises.proofs.Facts.{PlanLaws}
use Rattle.image_promises.proofs.ReadBack.{ReadLaws}
use Rattle.image_promises.proofs.MainMoved.{main_is_moved}
use Rattle.image_promises.proofs.code.main_words.Goals as goal

pub returns : goal.returns
returns c =
    let plans : PlanLaws = record { flash = c.flash.ensures; apart = c.ram.ensures; there = c.places.ensures.there; inside = c.places.ensures.inside } in
    let law : ReadLaws = record { plans = plans; code = c.compartments.ensures; counts = c.counts.ensures; pages = c.page_is_full.ensures.full } in
    main_is_moved law c.code.ensures c.places-2.ensures c.decoding_undoes_encoding.ensures c.page.ensures.exact

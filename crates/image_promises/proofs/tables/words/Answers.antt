use Rattle.image_promises.proofs.Facts.{PlanLaws}
use Rattle.image_promises.proofs.ReadBack.{ReadLaws}
use Rattle.image_promises.proofs.AreaWords.{WordLaws, all_words_fit, words_stand}
use Rattle.image_promises.proofs.tables.words.Goals as goal

pub returns : goal.returns
returns c =
    let plans : PlanLaws = record { flash = c.flash.ensures; apart = c.ram.ensures; there = c.places.ensures.there; inside = c.places.ensures.inside } in
    let read : ReadLaws = record { plans = plans; code = c.compartments.ensures; counts = c.counts.ensures; pages = c.page_is_full.ensures.full } in
    let law : WordLaws = record { read = read; typing = c.places-2.ensures; sizes = c.sizes.ensures; windows = c.windows.ensures } in
    record { fit = all_words_fit law; stand = words_stand law c.flash_has.ensures }

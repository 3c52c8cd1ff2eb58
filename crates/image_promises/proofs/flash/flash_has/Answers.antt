use Rattle.image_promises.proofs.PlannedPremises.{planned_of}
use Rattle.image_promises.proofs.Facts.{PlanLaws}
use Rattle.image_promises.proofs.ReadBack.{ReadLaws, page_byte, area_word, code_byte}
use Rattle.image_promises.proofs.flash.flash_has.Goals as goal

pub returns : goal.returns
returns c =
    let plans : PlanLaws = record { flash = c.flash.ensures; apart = c.ram.ensures; there = c.places.ensures.there; inside = c.places.ensures.inside } in
    let law : ReadLaws = record { plans = plans; code = c.compartments.ensures; counts = c.counts.ensures; pages = c.page_is_full.ensures.full } in
    record {
      page = λ w n f b ok. page_byte law (planned_of ok);
      words = λ w n f b ok. area_word law (planned_of ok);
      code = λ w n f b ok. code_byte law (planned_of ok);
    }

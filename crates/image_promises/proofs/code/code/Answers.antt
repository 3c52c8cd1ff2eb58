use Rattle.image_promises.proofs.PlannedPremises.{planned_of}
use Rattle.image_promises.proofs.Facts.{PlanLaws}
use Rattle.image_promises.proofs.ReadBack.{ReadLaws}
use Rattle.image_promises.proofs.CompartmentCode.{CodeLaws}
use Rattle.image_promises.proofs.CodeStanding.{code_exact, code_stands}
use Rattle.image_promises.proofs.code.code.Goals as goal

pub returns : goal.returns
returns c =
    let plans : PlanLaws = record { flash = c.flash.ensures; apart = c.ram.ensures; there = c.places.ensures.there; inside = c.places.ensures.inside } in
    let read : ReadLaws = record { plans = plans; code = c.compartments.ensures; counts = c.counts.ensures; pages = c.page_is_full.ensures.full } in
    let law : CodeLaws = record {
      read = read;
      placed = c.code.ensures;
      typing = c.places-2.ensures;
      windows = c.windows.ensures;
      sizes = c.sizes.ensures.hold;
      sites = c.sites.ensures;
      fit = c.typed_functions.ensures.fit;
      inside = c.typed_functions.ensures.inside;
      reach = c.compartments-2.ensures;
      lengths = c.first_halfword_shows_length.ensures;
    } in
    record {
      exact = λ w n f b ok. code_exact law c.flash_has.ensures (planned_of ok);
      lies = λ code w n f b ok rules. code_stands law c.flash_has.ensures (planned_of ok) c.items.ensures rules;
    }

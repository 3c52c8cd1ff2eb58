use Rattle.std.proofs.Common.{◌++◌, ◌∙◌, ap, map}
use Rattle.ir_model.specs.declared.firmware.Peripheral.{Peripheral}
use Rattle.ir_model.specs.Plain.{PlainGlobal, global_of, firmware_of}
use Rattle.ir_text_places.specs.Faulty.{periph_row}
use Rattle.ir_text_places.specs.Rows.{names_in}
use Rattle.ir_text_places.proofs.naming.object_names.Goals as goal

pub returns : goal.returns
returns c =
    let p =
    c.in_ok-put_periphs.ensures
    ∙ (ap (λ r. names_in r ++ map (λ (q : Peripheral). q.name) c.as_slice.result.now) c.new-row.ensures.items ∙ ap (map (λ (q : Peripheral). q.name)) c.as_slice.ensures) in
    c.in_ok-put_globals.ensures
    ∙ (ap (λ ms. ms ++ map (λ (g : PlainGlobal). g.name) (map global_of c.as_slice-2.result.now)) p
    ∙ ap (λ gs. periph_row (firmware_of c.args.firmware.now) ++ map (λ (g : PlainGlobal). g.name) (map global_of gs)) c.as_slice-2.ensures)

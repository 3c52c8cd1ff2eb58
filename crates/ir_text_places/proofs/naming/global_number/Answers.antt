use Rattle.std.proofs.Common.{◌∙◌, ap, map}
use Rattle.ir_model.specs.declared.firmware.Peripheral.{Peripheral}
use Rattle.ir_model.specs.Plain.{PlainGlobal, global_of}
use Rattle.ir_text_places.proofs.Numbered.{row_is, in_is}
use Rattle.ir_text_places.proofs.naming.global_number.Goals as goal

pub returns : goal.returns
returns c =
    let p = row_is c.put_periphs.new.row.items c.new-before.result.items c.as_slice-3.result.now (map (λ (q : Peripheral). q.name) c.as_slice.result.now) c.new-before.ensures.items c.in_ok-put_periphs.ensures c.as_slice-3.ensures.value in
    let r = row_is c.put_globals.new.row.items c.new-row.result.items c.as_slice-4.result.now (map (λ (g : PlainGlobal). g.name) (map global_of c.as_slice-2.result.now)) c.new-row.ensures.items c.in_ok-put_globals.ensures c.as_slice-4.ensures.value in
    in_is c.number_in.result c.as_slice-3.result.now c.as_slice-4.result.now _ c.is_again.result _ _ c.args.name.now c.number_in.ensures c.is_again.ensures
    (p ∙ ap (map (λ (q : Peripheral). q.name)) c.as_slice.ensures)
    (r ∙ ap (λ xs. map (λ (g : PlainGlobal). g.name) (map global_of xs)) c.as_slice-2.ensures)

use Rattle.std.proofs.Common.{◌∙◌, ap, map}
use Rattle.ir_model.specs.declared.firmware.Peripheral.{Peripheral}
use Rattle.ir_text_places.proofs.Numbered.{row_is, alone_is}
use Rattle.ir_text_places.proofs.naming.periph_number.Goals as goal

pub returns : goal.returns
returns c =
    let r = row_is c.put_periphs.new.row.items c.new-row.result.items c.as_slice-2.result.now (map (λ (q : Peripheral). q.name) c.as_slice.result.now) c.new-row.ensures.items c.in_ok-put_periphs.ensures c.as_slice-2.ensures.value in
    alone_is c.number_alone.result c.as_slice-2.result.now _ c.is_again.result _ c.args.name.now c.number_alone.ensures c.is_again.ensures
    (r ∙ ap (map (λ (q : Peripheral). q.name)) c.as_slice.ensures)

use Rattle.std.proofs.Common.{◌∙◌, ap, sym, map, arith}
use Rattle.base_names.specs.Numbers.{number_of}
use Rattle.ir_model.specs.declared.firmware.Block.{Block}
use Rattle.ir_text_places.proofs.Fronts.{labels_at}
use Rattle.ir_text_places.proofs.Numbered.{row_is}
use Rattle.ir_text_places.proofs.naming.block_number.Goals as goal

pub returns : goal.returns
returns c =
    let r = row_is c.put_labels.new.row.items c.new-row.result.items c.as_slice-2.result.now (map (λ (b : Block). b.label) c.as_slice.result.now) c.new-row.ensures.items c.in_ok-put_labels.ensures c.as_slice-2.ensures.value in
    let f = labels_at c.args.bodies.now c.args.func c.index-bodies-func.result (omega arith) c.index-bodies-func.is in
    c.number.ensures.exact ∙ ap (λ ms. number_of ms c.args.label.now) (r ∙ (ap (map (λ (b : Block). b.label)) c.as_slice.ensures ∙ sym f))

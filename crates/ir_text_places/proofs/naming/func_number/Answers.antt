use Rattle.std.proofs.Common.{◌∙◌, ap}
use Rattle.ir_model.specs.Plain.{lent_funcs, func_names}
use Rattle.ir_text_places.specs.Rows.{names_in}
use Rattle.ir_text_places.proofs.Numbered.{row_is, in_is}
use Rattle.ir_text_places.proofs.naming.func_number.Goals as goal

pub returns : goal.returns
returns c =
    let r = row_is c.put_funcs.new.row.items c.new-row.result.items c.as_slice-2.result.now (func_names (lent_funcs c.args.bodies.now)) c.new-row.ensures.items c.in_ok-put_funcs.ensures c.as_slice-2.ensures.value in
    in_is c.number_in.result c.as_slice.result.now c.as_slice-2.result.now _ c.is_again.result _ _ c.args.name.now c.number_in.ensures c.is_again.ensures
    (ap names_in c.as_slice.ensures.value ∙ c.in_ok-before.ensures)
    (r ∙ ap func_names c.requires)

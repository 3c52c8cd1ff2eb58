use Rattle.std.proofs.Common.{◌∙◌, ap, sym, map, arith}
use Rattle.ir_model.specs.Plain.{names_of, binding_of}
use Rattle.ir_text_places.specs.Faulty.{has_twice}
use Rattle.ir_text_places.specs.Rows.{names_in}
use Rattle.ir_text_places.proofs.Fronts.{fields_at}
use Rattle.ir_text_places.proofs.Numbered.{row_is, twice_is}
use Rattle.ir_text_places.proofs.naming.has_two_fields.Goals as goal

pub returns : goal.returns
returns c =
    let r = row_is c.put_bindings.new.row.items c.new-row.result.items c.as_slice-2.result.now (names_of (map binding_of c.as_slice.result.now)) c.new-row.ensures.items c.in_ok-put_bindings.ensures c.as_slice-2.ensures.value in
    let f = fields_at c.args.structs.now c.args.number c.index-structs-number.result (omega arith) c.index-structs-number.is in
    c.is_some.ensures
    ∙ (twice_is c.again.result (names_in c.as_slice-2.result.now) c.args.name.now c.again.ensures
    ∙ ap (λ ms. has_twice ms c.args.name.now) (r ∙ (ap (λ xs. names_of (map binding_of xs)) c.as_slice.ensures ∙ sym f)))

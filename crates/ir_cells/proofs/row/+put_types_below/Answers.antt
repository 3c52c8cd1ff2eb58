use Rattle.std.proofs.Common.{◌≡◌, ap, sym, map, take, drop, ◌∙◌, arith, length, List, get_or, ◌+◌, ◌-◌, ◌++◌}
use Rattle.ir_model.specs.Types.{Array, type_of}
use Rattle.ir_model.specs.Plain.{struct_of}
use Rattle.ir_model.proofs.Arrays.{arrays}
use Rattle.ir_layouts.specs.declared.struct_layout.Field.{Field}
use Rattle.ir_cells.specs.Cells.{lent_types}
use Rattle.ir_cells.proofs.Walks.{walk_falls}
use Rattle.ir_cells.proofs.Rows.{repeated, row_of, fields_row, at_most, row_start, row_more, row_full, row_array, row_no_cells, row_step, row_rest, row_struct, row_fields, fields_rest, field_step}
use Rattle.ir_cells.proofs.row.+put_types_below.Goals as goal

pub returns-then-measure_below-eq0 : goal.returns-then-measure_below-eq0
returns-then-measure_below-eq0 t c =
    row_start c.args.most c.args.types.now.items (row_of (map struct_of (take c.args.below c.args.layouts.now)) (type_of c.args.ty.now)) c.requires
    (row_no_cells (map struct_of (take c.args.below c.args.layouts.now)) (type_of c.args.ty.now) (type_of c.deref.result.now) c.in-Array.count c.measure_below.result (ap type_of c.in-Array.is ∙ ap (λ x. Array c.in-Array.count (type_of x)) (sym c.deref.ensures))
    c.measure_below.ensures.exact c.if-measure_below-eq0.true)

pub returns-then-len-most : goal.returns-then-len-most
returns-then-len-most t c =
    row_full c.args.most c.args.types.now.items c.loop-done.types.items (repeated c.loop-done._done (row_of (map struct_of (take c.args.below c.args.layouts.now)) (type_of c.in-Array.element.value))) (repeated (c.in-Array.count - c.loop-done._done) (row_of (map struct_of (take c.args.below c.args.layouts.now)) (type_of c.in-Array.element.value))) (row_of (map struct_of (take c.args.below c.args.layouts.now)) (type_of c.args.ty.now))
    c.loop-done.invariant (omega arith) (row_rest (map struct_of (take c.args.below c.args.layouts.now)) (type_of c.args.ty.now) (type_of c.in-Array.element.value) c.in-Array.count c.loop-done._done (ap type_of c.in-Array.is) (omega arith))

pub put_types_below-requires : goal.put_types_below-requires
put_types_below-requires t c =
    let e = ap arrays (ap type_of c.in-Array.is ∙ ap (λ x. Array c.in-Array.count (type_of x)) (sym c.deref-in-loop-done.ensures)) in
    (omega (arith, e), at_most c.args.most c.loop-done.types.items (lent_types c.args.types.now.items ++ repeated c.loop-done._done (row_of (map struct_of (take c.args.below c.args.layouts.now)) (type_of c.in-Array.element.value))) c.loop-done.invariant)

pub loop-done-preserved : goal.loop-done-preserved
loop-done-preserved t c =
    row_more c.args.most c.args.types.now.items c.loop-done.types.items c.put_types_below.new.types.items (repeated c.loop-done._done (row_of (map struct_of (take c.args.below c.args.layouts.now)) (type_of c.in-Array.element.value))) (row_of (map struct_of (take c.args.below c.args.layouts.now)) (type_of c.in-Array.element.value)) (repeated (c.loop-done._done + 1) (row_of (map struct_of (take c.args.below c.args.layouts.now)) (type_of c.in-Array.element.value)))
    c.loop-done.invariant
    (c.in_ok-put_types_below-in-Array.ensures ∙ ap (λ x. take c.args.most (lent_types c.loop-done.types.items ++ row_of (map struct_of (take c.args.below c.args.layouts.now)) (type_of x))) c.deref-in-loop-done.ensures)
    (row_step (map struct_of (take c.args.below c.args.layouts.now)) (type_of c.in-Array.element.value) c.loop-done._done)

pub put_types_below-requires-in-loop-field : goal.put_types_below-requires-in-loop-field
put_types_below-requires-in-loop-field t c =
    let items : length c.as_slice-field-items.result.now ≡ length c.entry.result.now.fields.items = ap length c.as_slice-field-items.ensures.value in
    let falls = walk_falls c.args.layouts.now c.args.below (type_of c.args.ty.now) c.in-Named.name c.in-Some.place c.entry.result.now c.loop-field.field-index c.field-item.result (ap type_of c.in-Named.is) c.in-Some.ensures c.entry.ensures.same c.entry.ensures.laid (omega (arith, items))
    (c.field-item.is ∙ ap (λ (fs : List Field). get_or fs c.loop-field.field-index c.field-item.result) c.as_slice-field-items.ensures.value) in
    (omega (arith, falls), at_most c.args.most c.loop-field.types.items (lent_types c.args.types.now.items ++ fields_row (map struct_of (take c.in-Some.place c.args.layouts.now)) (take c.loop-field.field-index c.as_slice-field-items.result.now)) c.loop-field.invariant)

pub loop-field-preserved : goal.loop-field-preserved
loop-field-preserved t c =
    row_more c.args.most c.args.types.now.items c.loop-field.types.items c.put_types_below-in-loop-field.new.types.items (fields_row (map struct_of (take c.in-Some.place c.args.layouts.now)) (take c.loop-field.field-index c.as_slice-field-items.result.now)) (row_of (map struct_of (take c.in-Some.place c.args.layouts.now)) (type_of c.field-item.result.ty.now))
    (fields_row (map struct_of (take c.in-Some.place c.args.layouts.now)) (take (c.loop-field.field-index + 1) c.as_slice-field-items.result.now))
    c.loop-field.invariant c.in_ok-put_types_below-in-Named.ensures (field_step (map struct_of (take c.in-Some.place c.args.layouts.now)) c.as_slice-field-items.result.now c.loop-field.field-index c.field-item.result (omega arith) c.field-item.is)

pub returns-after-loop-done : goal.returns-after-loop-done
returns-after-loop-done t c =
    let q : c.loop-done._done ≡ c.in-Array.count = omega arith in
    c.loop-done.invariant ∙ ap (λ r. take c.args.most (lent_types c.args.types.now.items ++ r)) (ap (λ n. repeated n (row_of (map struct_of (take c.args.below c.args.layouts.now)) (type_of c.in-Array.element.value))) q ∙ sym (row_array (map struct_of (take c.args.below c.args.layouts.now)) (type_of c.args.ty.now) (type_of c.in-Array.element.value) c.in-Array.count (ap type_of c.in-Array.is)))

pub returns-after-loop-field : goal.returns-after-loop-field
returns-after-loop-field t c =
    c.loop-field.invariant
    ∙ ap (λ r. take c.args.most (lent_types c.args.types.now.items ++ r))
    (row_fields (map struct_of (take c.in-Some.place c.args.layouts.now)) c.as_slice-field-items.result.now c.loop-field.field-index (omega arith) ∙ (ap (fields_row (map struct_of (take c.in-Some.place c.args.layouts.now))) c.as_slice-field-items.ensures.value ∙ sym (row_struct c.args.layouts.now c.args.below (type_of c.args.ty.now) c.in-Named.name c.in-Some.place c.entry.result.now (ap type_of c.in-Named.is) c.in-Some.ensures c.entry.ensures.same c.entry.ensures.laid)))

pub returns-then-len-most-2 : goal.returns-then-len-most-2
returns-then-len-most-2 t c =
    row_full c.args.most c.args.types.now.items c.loop-field.types.items (fields_row (map struct_of (take c.in-Some.place c.args.layouts.now)) (take c.loop-field.field-index c.as_slice-field-items.result.now)) (fields_row (map struct_of (take c.in-Some.place c.args.layouts.now)) (drop c.loop-field.field-index c.as_slice-field-items.result.now)) (row_of (map struct_of (take c.args.below c.args.layouts.now)) (type_of c.args.ty.now))
    c.loop-field.invariant (omega arith)
    (row_struct c.args.layouts.now c.args.below (type_of c.args.ty.now) c.in-Named.name c.in-Some.place c.entry.result.now (ap type_of c.in-Named.is) c.in-Some.ensures c.entry.ensures.same c.entry.ensures.laid ∙ (ap (fields_row (map struct_of (take c.in-Some.place c.args.layouts.now))) (sym c.as_slice-field-items.ensures.value) ∙ fields_rest (map struct_of (take c.in-Some.place c.args.layouts.now)) c.as_slice-field-items.result.now c.loop-field.field-index))

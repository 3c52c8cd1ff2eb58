use Rattle.std.proofs.Common.{ap, sym, subst, map, take, ◌∙◌, arith, length, List, get_or, ◌-◌, ◌%◌, ◌≤◌}
use Rattle.std.specs.List.{slice_get}
use Rattle.std.specs.List.Sorted.{IsNonDecreasingBy}
use Rattle.ir_model.specs.Types.{Array, type_of}
use Rattle.ir_model.specs.Plain.{struct_of}
use Rattle.ir_model.specs.Layout.{known, shape}
use Rattle.ir_layouts.specs.declared.struct_layout.Field.{Field}
use Rattle.ir_cells.specs.Halving.{IsFirstAbove, IsLastWithin}
use Rattle.ir_cells.proofs.Walks.{walk_falls}
use Rattle.ir_cells.proofs.Numbered.{IsNth, nth_no_cells, nth_behind, nth_element, firsts_rise, nth_before, nth_field, nth_field_none, field_within, field_cell_fits}
use Rattle.ir_cells.proofs.spot.+cell_below.Goals as goal

pub returns-then-inner-eq0 : goal.returns-then-inner-eq0
returns-then-inner-eq0 t c =
    nth_no_cells (map struct_of (take c.args.below c.args.layouts.now)) (type_of c.args.ty.now) (type_of c.deref.result.now) c.in-Array.count c.args.number c.measure_below-inner.result (ap type_of c.in-Array.is ∙ ap (λ x. Array c.in-Array.count (type_of x)) (sym c.deref.ensures)) c.measure_below-inner.ensures.exact c.if-inner-eq0.true

pub returns-then-place-from : goal.returns-then-place-from
returns-then-place-from t c =
    subst (λ x. length (shape (known (map struct_of (take c.args.below c.args.layouts.now))) (type_of c.args.ty.now)).cells ≤ x) c.from.ensures
    (nth_behind (map struct_of (take c.args.below c.args.layouts.now)) (type_of c.args.ty.now) (type_of c.deref.result.now) c.in-Array.count c.from.result c.measure_below-inner.result (ap type_of c.in-Array.is ∙ ap (λ x. Array c.in-Array.count (type_of x)) (sym c.deref.ensures)) c.measure_below-inner.ensures.exact c.requires c.if-inner-eq0.false (omega arith))

pub overflow_add-result : goal.overflow_add-result
overflow_add-result t c =
    let e = nth_element (map struct_of (take c.args.below c.args.layouts.now)) (type_of c.args.ty.now) (type_of c.deref.result.now) c.in-Array.count c.from.result c.measure_below-inner.result c.in_ok-cell-in-Array.cell (ap type_of c.in-Array.is ∙ ap (λ x. Array c.in-Array.count (type_of x)) (sym c.deref.ensures))
    c.measure_below-inner.ensures.exact c.requires (omega arith)
    (ap (λ x. slice_get (shape (known (map struct_of (take c.args.below c.args.layouts.now))) (type_of c.deref.result.now)).cells (x % c.measure_below-inner.result.cells)) (c.from.ensures ∙ sym c.from-in-Array-2.ensures)
    ∙ (ap (λ x. slice_get (shape (known (map struct_of (take c.args.below c.args.layouts.now))) (type_of x)).cells (c.from-in-Array-2.result % c.measure_below-inner.result.cells)) (c.deref.ensures ∙ sym c.deref-in-Array.ensures) ∙ c.in_ok-cell-in-Array.ensures))
    c.if-inner-eq0.false in
    omega (arith, e.small)

pub last_cell-requires : goal.last_cell-requires
last_cell-requires t c =
    subst (IsNonDecreasingBy (λ (f : Field). f.first_cell)) (sym c.as_slice-fields.ensures.value) (firsts_rise (map struct_of (take c.in_ok-place-in-Named.place c.args.layouts.now)) c.entry.result.now c.entry.ensures.laid)

pub returns-in_err-field-in-Named : goal.returns-in_err-field-in-Named
returns-in_err-field-in-Named t c =
    subst (IsNth (shape (known (map struct_of (take c.args.below c.args.layouts.now))) (type_of c.args.ty.now)).cells c.args.number) (sym c.from_residual-in_err-field-in-Named.ensures)
    (nth_before c.args.layouts.now c.args.below (type_of c.args.ty.now) c.in-Named.name c.in_ok-place-in-Named.place c.entry.result.now c.args.number (ap type_of c.in-Named.is) c.in_ok-place-in-Named.ensures c.entry.ensures.same c.entry.ensures.laid
    (subst (λ (fs : List Field). IsFirstAbove (λ (f : Field). f.first_cell) fs c.args.number 0) c.as_slice-fields.ensures.value c.in_err-field-in-Named.ensures))

pub cell_below-requires-in-Named : goal.cell_below-requires-in-Named
cell_below-requires-in-Named t c =
    let falls = walk_falls c.args.layouts.now c.args.below (type_of c.args.ty.now) c.in-Named.name c.in_ok-place-in-Named.place c.entry.result.now c.in_ok-field-in-Named.field-0 c.index-fields-branch.result (ap type_of c.in-Named.is) c.in_ok-place-in-Named.ensures c.entry.ensures.same c.entry.ensures.laid
    (subst (λ (fs : List Field). IsLastWithin (λ (f : Field). f.first_cell) fs c.args.number c.in_ok-field-in-Named.field-0) c.as_slice-fields.ensures.value c.in_ok-field-in-Named.ensures).0
    (c.index-fields-branch.is ∙ ap (λ (fs : List Field). get_or fs c.in_ok-field-in-Named.field-0 c.index-fields-branch.result) c.as_slice-fields.ensures.value) in
    let fits = field_within (map struct_of (take c.in_ok-place-in-Named.place c.args.layouts.now)) c.entry.result.now c.in_ok-field-in-Named.field-0 c.index-fields-branch.result c.entry.ensures.laid (subst (λ (fs : List Field). IsLastWithin (λ (f : Field). f.first_cell) fs c.args.number c.in_ok-field-in-Named.field-0) c.as_slice-fields.ensures.value c.in_ok-field-in-Named.ensures).0
    (c.index-fields-branch.is ∙ ap (λ (fs : List Field). get_or fs c.in_ok-field-in-Named.field-0 c.index-fields-branch.result) c.as_slice-fields.ensures.value) in
    (omega (arith, falls), omega (arith, fits))

pub returns-in_err-cell-in-Named : goal.returns-in_err-cell-in-Named
returns-in_err-cell-in-Named t c =
    subst (IsNth (shape (known (map struct_of (take c.args.below c.args.layouts.now))) (type_of c.args.ty.now)).cells c.args.number) (sym c.from_residual-in_err-cell-in-Named.ensures)
    (nth_field_none c.args.layouts.now c.args.below (type_of c.args.ty.now) c.in-Named.name c.in_ok-place-in-Named.place c.entry.result.now c.in_ok-field-in-Named.field-0 c.args.number c.index-fields-branch.result (ap type_of c.in-Named.is) c.in_ok-place-in-Named.ensures c.entry.ensures.same c.entry.ensures.laid
    (subst (λ (fs : List Field). IsLastWithin (λ (f : Field). f.first_cell) fs c.args.number c.in_ok-field-in-Named.field-0) c.as_slice-fields.ensures.value c.in_ok-field-in-Named.ensures)
    (c.index-fields-branch.is ∙ ap (λ (fs : List Field). get_or fs c.in_ok-field-in-Named.field-0 c.index-fields-branch.result) c.as_slice-fields.ensures.value) c.in_err-cell-in-Named.ensures)

pub overflow_add-result-in-Named : goal.overflow_add-result-in-Named
overflow_add-result-in-Named t c =
    let l = field_cell_fits (map struct_of (take c.in_ok-place-in-Named.place c.args.layouts.now)) c.entry.result.now c.in_ok-field-in-Named.field-0 (c.args.number - c.index-fields-branch.result.first_cell) c.index-fields-branch.result c.in_ok-cell-in-Named.cell c.entry.ensures.laid (subst (λ (fs : List Field). IsLastWithin (λ (f : Field). f.first_cell) fs c.args.number c.in_ok-field-in-Named.field-0) c.as_slice-fields.ensures.value c.in_ok-field-in-Named.ensures).0
    (c.index-fields-branch.is ∙ ap (λ (fs : List Field). get_or fs c.in_ok-field-in-Named.field-0 c.index-fields-branch.result) c.as_slice-fields.ensures.value) c.in_ok-cell-in-Named.ensures in
    omega (arith, l)

pub returns-in_ok-cell-in-Array : goal.returns-in_ok-cell-in-Array
returns-in_ok-cell-in-Array t c =
    let e = nth_element (map struct_of (take c.args.below c.args.layouts.now)) (type_of c.args.ty.now) (type_of c.deref.result.now) c.in-Array.count c.from.result c.measure_below-inner.result c.in_ok-cell-in-Array.cell (ap type_of c.in-Array.is ∙ ap (λ x. Array c.in-Array.count (type_of x)) (sym c.deref.ensures))
    c.measure_below-inner.ensures.exact c.requires (omega arith)
    (ap (λ x. slice_get (shape (known (map struct_of (take c.args.below c.args.layouts.now))) (type_of c.deref.result.now)).cells (x % c.measure_below-inner.result.cells)) (c.from.ensures ∙ sym c.from-in-Array-2.ensures)
    ∙ (ap (λ x. slice_get (shape (known (map struct_of (take c.args.below c.args.layouts.now))) (type_of x)).cells (c.from-in-Array-2.result % c.measure_below-inner.result.cells)) (c.deref.ensures ∙ sym c.deref-in-Array.ensures) ∙ c.in_ok-cell-in-Array.ensures))
    c.if-inner-eq0.false in
    ap (slice_get (shape (known (map struct_of (take c.args.below c.args.layouts.now))) (type_of c.args.ty.now)).cells) (sym c.from.ensures) ∙ e.nth

pub returns-in_ok-cell-in-Named : goal.returns-in_ok-cell-in-Named
returns-in_ok-cell-in-Named t c =
    nth_field c.args.layouts.now c.args.below (type_of c.args.ty.now) c.in-Named.name c.in_ok-place-in-Named.place c.entry.result.now c.in_ok-field-in-Named.field-0 c.args.number c.index-fields-branch.result c.in_ok-cell-in-Named.cell (ap type_of c.in-Named.is) c.in_ok-place-in-Named.ensures c.entry.ensures.same c.entry.ensures.laid
    (subst (λ (fs : List Field). IsLastWithin (λ (f : Field). f.first_cell) fs c.args.number c.in_ok-field-in-Named.field-0) c.as_slice-fields.ensures.value c.in_ok-field-in-Named.ensures)
    (c.index-fields-branch.is ∙ ap (λ (fs : List Field). get_or fs c.in_ok-field-in-Named.field-0 c.index-fields-branch.result) c.as_slice-fields.ensures.value) c.in_ok-cell-in-Named.ensures

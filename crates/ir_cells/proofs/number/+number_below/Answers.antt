use Rattle.std.proofs.Common.{◌≡◌, ap, sym, subst, map, take, ◌∙◌, arith, None, List, get_or, ◌+◌, ◌*◌, ◌/◌, ◌%◌, Some}
use Rattle.std.specs.List.Sorted.{IsNonDecreasingBy}
use Rattle.ir_model.specs.Types.{Array, type_of}
use Rattle.ir_model.specs.Plain.{struct_of}
use Rattle.ir_layouts.specs.declared.struct_layout.Field.{Field}
use Rattle.ir_cells.specs.Halving.{IsFirstAbove, IsLastWithin}
use Rattle.ir_cells.proofs.Structs.{offsets_rise}
use Rattle.ir_cells.proofs.Walks.{at_offset, walk_nowhere, walk_past, walk_element, walk_missing, walk_before, walk_field, walk_falls, walk_fits}
use Rattle.ir_cells.proofs.number.+number_below.Goals as goal

pub returns-then-inner-eq0-clause-exact : goal.returns-then-inner-eq0-clause-exact
returns-then-inner-eq0-clause-exact t c =
    walk_nowhere (map struct_of (take c.args.below c.args.layouts.now)) (type_of c.args.ty.now) (type_of c.deref.result.now) c.in-Array.count c.args.at (type_of c.args.of.now) c.measure_below-inner.result
    (ap type_of c.in-Array.is ∙ ap (λ x. Array c.in-Array.count (type_of x)) (sym c.deref.ensures)) c.measure_below-inner.ensures.exact c.if-inner-eq0.true

pub returns-then-place-from-clause-exact : goal.returns-then-place-from-clause-exact
returns-then-place-from-clause-exact t c =
    subst (λ x. None ≡ at_offset (map struct_of (take c.args.below c.args.layouts.now)) (type_of c.args.ty.now) x (type_of c.args.of.now)) c.from.ensures
    (walk_past (map struct_of (take c.args.below c.args.layouts.now)) (type_of c.args.ty.now) (type_of c.deref.result.now) c.in-Array.count c.from.result (type_of c.args.of.now) c.measure_below-inner.result (ap type_of c.in-Array.is ∙ ap (λ x. Array c.in-Array.count (type_of x)) (sym c.deref.ensures))
    c.measure_below-inner.ensures.exact c.if-inner-eq0.false (omega arith) (omega arith))

pub returns-in_err-number-in-Array-clause-exact : goal.returns-in_err-number-in-Array-clause-exact
returns-in_err-number-in-Array-clause-exact t c =
    c.from_residual.ensures
    ∙ subst (λ x. None ≡ at_offset (map struct_of (take c.args.below c.args.layouts.now)) (type_of c.args.ty.now) x (type_of c.args.of.now)) c.from.ensures (sym
    (walk_element (map struct_of (take c.args.below c.args.layouts.now)) (type_of c.args.ty.now) (type_of c.deref.result.now) c.in-Array.count c.from.result (type_of c.args.of.now) c.measure_below-inner.result (ap type_of c.in-Array.is ∙ ap (λ x. Array c.in-Array.count (type_of x)) (sym c.deref.ensures))
    c.measure_below-inner.ensures.exact c.if-inner-eq0.false (omega arith) (omega arith) None
    (c.in_err-number-in-Array.ensures.exact
    ∙ (ap (λ x. at_offset (map struct_of (take c.args.below c.args.layouts.now)) (type_of x) (c.from-in-Array-2.result % c.measure_below-inner.result.size) (type_of c.args.of.now)) (c.deref-in-Array.ensures ∙ sym c.deref.ensures)
    ∙ ap (λ x. at_offset (map struct_of (take c.args.below c.args.layouts.now)) (type_of c.deref.result.now) (x % c.measure_below-inner.result.size) (type_of c.args.of.now)) (c.from-in-Array-2.ensures ∙ sym c.from.ensures)))))

pub returns-in_err-place-in-Named-clause-exact : goal.returns-in_err-place-in-Named-clause-exact
returns-in_err-place-in-Named-clause-exact t c =
    c.from_residual-in_err-place-in-Named.ensures
    ∙ walk_missing (map struct_of (take c.args.below c.args.layouts.now)) (type_of c.args.ty.now) c.in-Named.name c.args.at (type_of c.args.of.now) (ap type_of c.in-Named.is) c.in_err-place-in-Named.ensures

pub last_at-requires : goal.last_at-requires
last_at-requires t c =
    subst (IsNonDecreasingBy (λ (f : Field). f.at)) (sym c.as_slice-fields.ensures.value) (offsets_rise (map struct_of (take c.in_ok-place-in-Named.place c.args.layouts.now)) c.entry.result.now c.entry.ensures.laid)

pub returns-in_err-field-in-Named-clause-exact : goal.returns-in_err-field-in-Named-clause-exact
returns-in_err-field-in-Named-clause-exact t c =
    c.from_residual-in_err-field-in-Named.ensures
    ∙ walk_before c.args.layouts.now c.args.below (type_of c.args.ty.now) c.in-Named.name c.in_ok-place-in-Named.place c.entry.result.now c.args.at (type_of c.args.of.now) (ap type_of c.in-Named.is) c.in_ok-place-in-Named.ensures c.entry.ensures.same c.entry.ensures.laid
    (subst (λ (fs : List Field). IsFirstAbove (λ (f : Field). f.at) fs c.args.at 0) c.as_slice-fields.ensures.value c.in_err-field-in-Named.ensures)

pub number_below-requires-in-Named : goal.number_below-requires-in-Named
number_below-requires-in-Named t c =
    let falls = walk_falls c.args.layouts.now c.args.below (type_of c.args.ty.now) c.in-Named.name c.in_ok-place-in-Named.place c.entry.result.now c.in_ok-field-in-Named.field-0 c.index-fields-branch.result (ap type_of c.in-Named.is) c.in_ok-place-in-Named.ensures c.entry.ensures.same c.entry.ensures.laid
    (subst (λ (fs : List Field). IsLastWithin (λ (f : Field). f.at) fs c.args.at c.in_ok-field-in-Named.field-0) c.as_slice-fields.ensures.value c.in_ok-field-in-Named.ensures).0
    (c.index-fields-branch.is ∙ ap (λ (fs : List Field). get_or fs c.in_ok-field-in-Named.field-0 c.index-fields-branch.result) c.as_slice-fields.ensures.value) in
    (omega (arith, falls), tt)

pub returns-in_err-number-in-Named-clause-exact : goal.returns-in_err-number-in-Named-clause-exact
returns-in_err-number-in-Named-clause-exact t c =
    c.from_residual-in_err-number-in-Named.ensures
    ∙ sym (walk_field c.args.layouts.now c.args.below (type_of c.args.ty.now) c.in-Named.name c.in_ok-place-in-Named.place c.entry.result.now c.in_ok-field-in-Named.field-0 c.args.at (type_of c.args.of.now) c.index-fields-branch.result (ap type_of c.in-Named.is) c.in_ok-place-in-Named.ensures c.entry.ensures.same c.entry.ensures.laid
    (subst (λ (fs : List Field). IsLastWithin (λ (f : Field). f.at) fs c.args.at c.in_ok-field-in-Named.field-0) c.as_slice-fields.ensures.value c.in_ok-field-in-Named.ensures)
    (c.index-fields-branch.is ∙ ap (λ (fs : List Field). get_or fs c.in_ok-field-in-Named.field-0 c.index-fields-branch.result) c.as_slice-fields.ensures.value) None c.in_err-number-in-Named.ensures.exact)

pub overflow_add-result-in-Named : goal.overflow_add-result-in-Named
overflow_add-result-in-Named t c =
    let l = walk_fits (map struct_of (take c.in_ok-place-in-Named.place c.args.layouts.now)) c.entry.result.now c.in_ok-field-in-Named.field-0 c.args.at c.in_ok-number-in-Named.number c.index-fields-branch.result c.entry.ensures.laid
    (subst (λ (fs : List Field). IsLastWithin (λ (f : Field). f.at) fs c.args.at c.in_ok-field-in-Named.field-0) c.as_slice-fields.ensures.value c.in_ok-field-in-Named.ensures)
    (c.index-fields-branch.is ∙ ap (λ (fs : List Field). get_or fs c.in_ok-field-in-Named.field-0 c.index-fields-branch.result) c.as_slice-fields.ensures.value) c.in_ok-number-in-Named.ensures.small in
    omega (arith, l)

pub returns-in_ok-number-in-Array-clause-exact : goal.returns-in_ok-number-in-Array-clause-exact
returns-in_ok-number-in-Array-clause-exact t c =
    subst (λ x. Some (c.from.result / c.measure_below-inner.result.size * c.measure_below-inner.result.cells + c.in_ok-number-in-Array.number) ≡ at_offset (map struct_of (take c.args.below c.args.layouts.now)) (type_of c.args.ty.now) x (type_of c.args.of.now)) c.from.ensures (sym
    (walk_element (map struct_of (take c.args.below c.args.layouts.now)) (type_of c.args.ty.now) (type_of c.deref.result.now) c.in-Array.count c.from.result (type_of c.args.of.now) c.measure_below-inner.result (ap type_of c.in-Array.is ∙ ap (λ x. Array c.in-Array.count (type_of x)) (sym c.deref.ensures))
    c.measure_below-inner.ensures.exact c.if-inner-eq0.false (omega arith) (omega arith) (Some c.in_ok-number-in-Array.number)
    (c.in_ok-number-in-Array.ensures.exact
    ∙ (ap (λ x. at_offset (map struct_of (take c.args.below c.args.layouts.now)) (type_of x) (c.from-in-Array-2.result % c.measure_below-inner.result.size) (type_of c.args.of.now)) (c.deref-in-Array.ensures ∙ sym c.deref.ensures)
    ∙ ap (λ x. at_offset (map struct_of (take c.args.below c.args.layouts.now)) (type_of c.deref.result.now) (x % c.measure_below-inner.result.size) (type_of c.args.of.now)) (c.from-in-Array-2.ensures ∙ sym c.from.ensures)))))

pub returns-in_ok-number-in-Named-clause-exact : goal.returns-in_ok-number-in-Named-clause-exact
returns-in_ok-number-in-Named-clause-exact t c =
    sym (walk_field c.args.layouts.now c.args.below (type_of c.args.ty.now) c.in-Named.name c.in_ok-place-in-Named.place c.entry.result.now c.in_ok-field-in-Named.field-0 c.args.at (type_of c.args.of.now) c.index-fields-branch.result (ap type_of c.in-Named.is) c.in_ok-place-in-Named.ensures c.entry.ensures.same c.entry.ensures.laid
    (subst (λ (fs : List Field). IsLastWithin (λ (f : Field). f.at) fs c.args.at c.in_ok-field-in-Named.field-0) c.as_slice-fields.ensures.value c.in_ok-field-in-Named.ensures)
    (c.index-fields-branch.is ∙ ap (λ (fs : List Field). get_or fs c.in_ok-field-in-Named.field-0 c.index-fields-branch.result) c.as_slice-fields.ensures.value) (Some c.in_ok-number-in-Named.number) c.in_ok-number-in-Named.ensures.exact)

pub returns-in_ok-number-in-Named-clause-small : goal.returns-in_ok-number-in-Named-clause-small
returns-in_ok-number-in-Named-clause-small t c =
    walk_fits (map struct_of (take c.in_ok-place-in-Named.place c.args.layouts.now)) c.entry.result.now c.in_ok-field-in-Named.field-0 c.args.at c.in_ok-number-in-Named.number c.index-fields-branch.result c.entry.ensures.laid
    (subst (λ (fs : List Field). IsLastWithin (λ (f : Field). f.at) fs c.args.at c.in_ok-field-in-Named.field-0) c.as_slice-fields.ensures.value c.in_ok-field-in-Named.ensures)
    (c.index-fields-branch.is ∙ ap (λ (fs : List Field). get_or fs c.in_ok-field-in-Named.field-0 c.index-fields-branch.result) c.as_slice-fields.ensures.value) c.in_ok-number-in-Named.ensures.small

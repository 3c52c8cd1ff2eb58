use Rattle.std.proofs.Common.{◌≡◌, ap, sym, subst, map, take}
use Rattle.ir_model.specs.Types.{PlainType, Array, type_of}
use Rattle.ir_model.specs.Plain.{struct_of}
use Rattle.ir_model.specs.Layout.{known, shape}
use Rattle.ir_layouts.specs.declared.measure.Measure.{Measure}
use Rattle.ir_layouts.specs.Measures.{IsMeasure}
use Rattle.ir_layouts.proofs.Capped.{measure_array}
use Rattle.ir_layouts.proofs.table.Layouts.+measure_below.Goals as goal

pub returns-in-Array-clause-exact : goal.returns-in-Array-clause-exact
returns-in-Array-clause-exact t c =
    let e : type_of c.args.ty.now ≡ Array c.in-Array.count (type_of c.in-Array.element.value) = ap type_of c.in-Array.is in
    let d : type_of c.deref.result.now ≡ type_of c.in-Array.element.value = ap type_of c.deref.ensures in
    let h = subst (λ (u : PlainType). IsMeasure c.measure_below.result (shape (known (map struct_of (take c.args.below c.args.self.now))) u)) d c.measure_below.ensures.exact in
    subst (λ (u : PlainType). IsMeasure c.many.result (shape (known (map struct_of (take c.args.below c.args.self.now))) u)) (sym e)
    (subst (λ (m : Measure). IsMeasure m (shape (known (map struct_of (take c.args.below c.args.self.now))) (Array c.in-Array.count (type_of c.in-Array.element.value)))) (sym c.many.ensures)
    (measure_array c.in-Array.count c.measure_below.result (shape (known (map struct_of (take c.args.below c.args.self.now))) (type_of c.in-Array.element.value)) h))

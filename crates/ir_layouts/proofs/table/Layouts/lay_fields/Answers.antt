use Rattle.std.proofs.Common.{ap, sym, map, arith, refl}
use Rattle.ir_model.specs.Plain.{binding_of, struct_of}
use Rattle.ir_layouts.proofs.Opened.{open_large, open_step, open_whole}
use Rattle.ir_layouts.proofs.table.Layouts.lay_fields.Goals as goal

pub returns-then-end-from-clause-too_large : goal.returns-then-end-from-clause-too_large
returns-then-end-from-clause-too_large c = λ e.
    open_large (map struct_of c.args.self.now) c.as_slice-bindings.result.now c.loop-binding.binding-index c.binding-item.result (struct_of c.args.declaration.now)
    c.loop-binding.size c.loop-binding.align c.loop-binding.cells c.loop-binding.fields.items c.loop-binding.names c.measure-inner.result c.round_up-at.result
    c.loop-binding.invariant c.measure-inner.ensures.exact c.measure-inner.ensures.align.0 c.round_up-at.ensures.exact (omega arith)
    (omega arith) c.binding-item.is (ap (map binding_of) (sym c.as_slice-bindings.ensures))

pub loop-binding-preserved : goal.loop-binding-preserved
loop-binding-preserved c =
    open_step (map struct_of c.args.self.now) c.as_slice-bindings.result.now c.loop-binding.binding-index c.binding-item.result
    c.loop-binding.size c.loop-binding.align c.loop-binding.cells c.loop-binding.fields.items c.loop-binding.names c.measure-inner.result c.round_up-at.result _
    c.from.result c.max-align.result c.push.new.self.items c.push-in-loop-binding.new.self
    c.loop-binding.invariant c.measure-inner.ensures.exact c.measure-inner.ensures.align c.measure-inner.ensures.cells c.round_up-at.ensures.exact (omega arith)
    refl refl (omega arith) c.binding-item.is c.from.ensures c.max-align.ensures c.in_ok-push.ensures.items c.in_ok-push-2.ensures.grows

pub returns-clause-open : goal.returns-clause-open
returns-clause-open c =
    open_whole (map struct_of c.args.self.now) c.as_slice-bindings.result.now c.loop-binding.binding-index (struct_of c.args.declaration.now)
    c.loop-binding.size c.loop-binding.align c.loop-binding.cells c.loop-binding.fields.items c.loop-binding.names (omega arith) (ap (map binding_of) (sym c.as_slice-bindings.ensures)) c.loop-binding.invariant

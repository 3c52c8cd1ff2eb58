use Rattle.std.proofs.Common.{◌≡◌, map, take, length}
use Rattle.ir_model.specs.Layout.{known, shape, Shape}
use Rattle.ir_model.specs.Plain.{binding_of, struct_of}
use Rattle.ir_program.specs.declared.program.Storage.{Storage}
use Rattle.ir_program.specs.Storages.{shape_of}
use Rattle.ir_resolve.proofs.routines.locals.Given as goal

abbrev pub invariant-loop-binding : goal.invariant-loop-binding
invariant-loop-binding l = record {
  shapes : map (shape_of (known (map struct_of l.layouts))) l.locals.items ≡ map (λ s. shape (known (map struct_of l.layouts)) s.ty) (map binding_of (take l.binding-index l.bindings));
  cells : map (λ (s : Storage). s.cells) l.locals.items ≡ map (λ (s : Shape). length s.cells) (map (λ s. shape (known (map struct_of l.layouts)) s.ty) (map binding_of (take l.binding-index l.bindings)));
}

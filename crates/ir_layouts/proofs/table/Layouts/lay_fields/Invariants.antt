use Rattle.std.proofs.Common.{map, take}
use Rattle.ir_model.specs.Plain.{binding_of, struct_of}
use Rattle.ir_layouts.specs.Laying.{IsOpen}
use Rattle.ir_layouts.proofs.table.Layouts.lay_fields.Given as goal

abbrev pub invariant-loop-binding : goal.invariant-loop-binding
invariant-loop-binding l = IsOpen (map struct_of l.self) (map binding_of (take l.binding-index l.bindings)) l.size l.align l.cells l.fields.items l.names

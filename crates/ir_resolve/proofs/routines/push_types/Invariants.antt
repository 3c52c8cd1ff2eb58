use Rattle.std.proofs.Common.{◌≡◌, ◌++◌, map, take}
use Rattle.ir_model.specs.Types.{type_of}
use Rattle.ir_model.specs.Plain.{binding_of, types_of}
use Rattle.ir_resolve.proofs.routines.push_types.Given as goal

abbrev pub invariant-loop-i : goal.invariant-loop-i
invariant-loop-i l = map (λ t. type_of t.now) l.types.items ≡ map (λ t. type_of t.now) l.initial.types.items ++ types_of (map binding_of (take l.i l.bindings))

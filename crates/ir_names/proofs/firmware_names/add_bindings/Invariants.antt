use Rattle.std.proofs.Common.{◌≡◌, ◌++◌, map, take}
use Rattle.ir_model.specs.Plain.{binding_of, names_of}
use Rattle.ir_names.proofs.firmware_names.add_bindings.Given as goal

abbrev pub invariant-loop-binding : goal.invariant-loop-binding
invariant-loop-binding l = l.names ≡ l.initial.names ++ names_of (map binding_of (take l.binding-index l.bindings))

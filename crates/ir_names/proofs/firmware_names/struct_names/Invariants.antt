use Rattle.std.proofs.Common.{◌≡◌, map, take}
use Rattle.ir_model.specs.Plain.{PlainStruct, struct_of}
use Rattle.ir_names.proofs.firmware_names.struct_names.Given as goal

abbrev pub invariant-loop-declared : goal.invariant-loop-declared
invariant-loop-declared l = l.names ≡ map (λ (s : PlainStruct). s.name) (map struct_of (take l.declared-index l.structs))

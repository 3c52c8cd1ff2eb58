use Rattle.std.proofs.Common.{◌≡◌, [], map, drop}
use Rattle.ir_model.specs.Plain.{binding_of}
use Rattle.ir_model.specs.Typing.{first_failing, field_checks}
use Rattle.ir_check_scopes.specs.Spots.{place_of}
use Rattle.ir_check_declarations.proofs.structs.fields.Given as goal

abbrev pub invariant-loop-binding : goal.invariant-loop-binding
invariant-loop-binding l = first_failing (field_checks l.declared l.earlier (place_of l.spot) [] (map binding_of l.bindings)) ≡ first_failing (field_checks l.declared l.earlier (place_of l.spot) l.seen (map binding_of (drop l.binding-index l.bindings)))

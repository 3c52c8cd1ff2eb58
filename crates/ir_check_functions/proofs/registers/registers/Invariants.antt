use Rattle.std.proofs.Common.{◌≡◌, ◌++◌, map, take, drop}
use Rattle.ir_model.specs.Plain.{binding_of, names_of}
use Rattle.ir_model.specs.Typing.{first_failing, register_checks}
use Rattle.ir_check_scopes.specs.Spots.{place_of}
use Rattle.ir_check_functions.proofs.registers.registers.Given as goal

abbrev pub invariant-loop-binding : goal.invariant-loop-binding
invariant-loop-binding l = record {
  left : first_failing (register_checks l.declared (place_of l.spot) l.initial.seen (map binding_of l.bindings)) ≡ first_failing (register_checks l.declared (place_of l.spot) l.seen (map binding_of (drop l.binding-index l.bindings)));
  names : l.seen ≡ l.initial.seen ++ names_of (map binding_of (take l.binding-index l.bindings));
}

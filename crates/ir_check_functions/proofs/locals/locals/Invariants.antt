use Rattle.std.proofs.Common.{◌≡◌, ◌++◌, ◌≤◌, ◌*◌, map, take, drop}
use Rattle.ir_model.specs.Plain.{binding_of, names_of, firmware_of}
use Rattle.ir_model.specs.Layout.{known}
use Rattle.ir_model.specs.Frames.{locals_size}
use Rattle.ir_model.specs.Typing.{object_limit, first_failing, local_checks}
use Rattle.ir_check_scopes.specs.Spots.{place_of}
use Rattle.ir_check_functions.proofs.locals.locals.Given as goal

abbrev pub invariant-loop-binding : goal.invariant-loop-binding
invariant-loop-binding l = record {
  left : first_failing (local_checks (firmware_of l.scope.firmware.now) l.scope.structs (place_of l.spot) l.initial.seen (map binding_of l.bindings)) ≡ first_failing (local_checks (firmware_of l.scope.firmware.now) l.scope.structs (place_of l.spot) l.seen (map binding_of (drop l.binding-index l.bindings)));
  names : l.seen ≡ l.initial.seen ++ names_of (map binding_of (take l.binding-index l.bindings));
  size : l.total ≡ locals_size (known (firmware_of l.scope.firmware.now).structs) (map binding_of (take l.binding-index l.bindings));
  most : l.total ≤ l.binding-index * object_limit;
}

use Rattle.std.proofs.Common.{◌≡◌, drop}
use Rattle.ir_model.specs.Plain.{func_of}
use Rattle.ir_model.specs.Typing.{first_failing, registers_known}
use Rattle.ir_check_scopes.specs.Spots.{place_of}
use Rattle.ir_check_functions.proofs.register_names.all_known.Given as goal

abbrev pub invariant-loop-name : goal.invariant-loop-name
invariant-loop-name l = first_failing (registers_known (func_of l.func.func.now) (place_of l.spot) l.names) ≡ first_failing (registers_known (func_of l.func.func.now) (place_of l.spot) (drop l.name-index l.names))

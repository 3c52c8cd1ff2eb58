use Rattle.std.proofs.Common.{◌≡◌, map, take}
use Rattle.ir_model.specs.State as state
use Rattle.ir_model.specs.Plain.{struct_of}
use Rattle.ir_model.specs.Layout.{known}
use Rattle.ir_program.specs.Values.{value_of}
use Rattle.ir_program.specs.Storages.{shape_of}
use Rattle.ir_run.proofs.entering.zero_locals.Given as goal

abbrev pub invariant-loop-i : goal.invariant-loop-i
invariant-loop-i l = map (map value_of) l.objects.items ≡ map state.zero_local (map (shape_of (known (map struct_of l.layouts))) (take l.i l.locals))

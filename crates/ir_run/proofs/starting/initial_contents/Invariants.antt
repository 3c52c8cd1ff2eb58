use Rattle.std.proofs.Common.{◌≡◌, map, take}
use Rattle.ir_model.specs.Resolved.{NumberedGlobal}
use Rattle.ir_model.specs.Plain.{struct_of}
use Rattle.ir_model.specs.Layout.{known}
use Rattle.ir_program.specs.Values.{value_of}
use Rattle.ir_program.specs.Parts.{variable_of}
use Rattle.ir_run.proofs.starting.initial_contents.Given as goal

abbrev pub invariant-loop-i : goal.invariant-loop-i
invariant-loop-i l = map (map value_of) l.objects.items ≡ map (λ (o : NumberedGlobal). o.init) (map (variable_of (known (map struct_of l.layouts))) (take l.i l.variables))

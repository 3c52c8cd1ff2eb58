use Rattle.std.proofs.Common.{◌≡◌, ◌++◌, map, take}
use Rattle.ir_model.specs.Plain.{firmware_of}
use Rattle.plan_report.specs.Names.{spaced, func_name}
use Rattle.aces_stack.proofs.telling.put_funcs.Given as goal

abbrev pub invariant-loop-i : goal.invariant-loop-i
invariant-loop-i l = l.text ≡ l.initial.text ++ spaced (map (func_name (firmware_of l.firmware)) (take l.i l.funcs))

use Rattle.std.proofs.Common.{◌≡◌, map, take}
use Rattle.ir_model.specs.Step.{register}
use Rattle.ir_program.specs.Values.{value_of}
use Rattle.ir_run.specs.Acts.{frame_of}
use Rattle.ir_run.proofs.act.arguments.Given as goal

abbrev pub invariant-loop-i : goal.invariant-loop-i
invariant-loop-i l = map value_of l.values.items ≡ map (register (frame_of l.frame)) (take l.i l.registers)

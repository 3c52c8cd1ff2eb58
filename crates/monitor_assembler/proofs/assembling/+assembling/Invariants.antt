use Rattle.std.proofs.Common.{◌+◌, ◌*◌, take}
use Rattle.monitor_steps.specs.Steps.{End}
use Rattle.monitor_steps.specs.Lists.{before, steps_of}
use Rattle.monitor_steps.specs.Code.{code, code_length}
use Rattle.monitor_assembler.specs.Emitted.{HasPut}
use Rattle.monitor_assembler.proofs.assembling.+assembling.Given as goal

abbrev pub invariant-assemble-loop-step : goal.invariant-assemble-loop-step
invariant-assemble-loop-step l = HasPut l.initial.asm l.asm (code (steps_of (take l.step-index l.steps)))

-- the bytes of the code, twice, so that a list counts more than each of its steps
abbrev pub decreases-assemble : goal.decreases-assemble
decreases-assemble l = 2 * code_length (steps_of l.steps.now) + 1

abbrev pub decreases-put_step : goal.decreases-put_step
decreases-put_step l = 2 * code_length (before l.step.now End)

use Rattle.std.proofs.Common.{◌≡◌, ◌+◌, ◌*◌, take}
use Rattle.monitor_steps.specs.Steps.{End}
use Rattle.monitor_steps.specs.Lists.{before, steps_of}
use Rattle.monitor_steps.specs.Code.{code_length}
use Rattle.monitor_assembler.proofs.lengths.+lengths.Given as goal

abbrev pub invariant-length_of-loop-step : goal.invariant-length_of-loop-step
invariant-length_of-loop-step l = l.length ≡ code_length (steps_of (take l.step-index l.steps))

-- the bytes of the code, twice, so that a list counts more than each of its steps
abbrev pub decreases-length_of : goal.decreases-length_of
decreases-length_of l = 2 * code_length (steps_of l.steps.now) + 1

abbrev pub decreases-step_length : goal.decreases-step_length
decreases-step_length l = 2 * code_length (before l.step.now End)

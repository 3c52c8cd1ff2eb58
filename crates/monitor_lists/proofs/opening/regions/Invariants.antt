use Rattle.std.proofs.Common.{◌≡◌, ◌+◌, ◌-◌, ◌*◌}
use Rattle.monitor_steps.specs.Steps.{PrivilegedSteps}
use Rattle.monitor_steps.specs.Lists.{all_before}
use Rattle.monitor_program.specs.Opening as opening
use Rattle.monitor_lists.proofs.opening.regions.Given as goal

abbrev pub invariant-loop-i : goal.invariant-loop-i
invariant-loop-i l =
    (rest : PrivilegedSteps) → all_before l.list.steps.items (opening.regions (l.count - l.i) (l.from + 2 * l.i) rest) ≡ all_before l.initial.list.steps.items (opening.regions l.count l.from rest)

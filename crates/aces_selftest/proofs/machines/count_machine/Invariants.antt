use Rattle.aces_selftest.proofs.MachineTurns.{Runs}
use Rattle.aces_selftest.proofs.machines.count_machine.Given as goal

-- so many steps were made, none ended the machine, and what they told is kept
abbrev pub invariant-loop-made : goal.invariant-loop-made
invariant-loop-made l = Runs l.fn.machine.image l.fn.machine.state l.made l.machine l.events.items

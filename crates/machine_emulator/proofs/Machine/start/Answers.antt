-- The state that is made is that of reset.
use Rattle.machine_model.specs.Run.{start}
use Rattle.machine_emulator.proofs.Machines.{starts}
use Rattle.machine_emulator.proofs.Machine.start.Goals as goal

pub invariant_of-result : goal.invariant_of-result
unfolding start
invariant_of-result c =
    rw (c.in_ok-bus.ensures, c.new-2.ensures, c.unit_at_reset.ensures, c.at_reset.ensures, c.vector.ensures, c.read_value-stack_pointer.ensures, c.as_slice.ensures)
    (starts c.args.image.now c.args.tape c.args.fill c.requires.rules c.requires.queues, c.new-code.ensures)

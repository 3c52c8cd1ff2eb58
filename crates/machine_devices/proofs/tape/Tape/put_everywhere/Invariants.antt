use Rattle.std.proofs.Common.{◌≡◌}
use Rattle.machine_devices.specs.Tape.{Entry}
use Rattle.machine_devices.proofs.Rows.{so_far}
use Rattle.machine_devices.proofs.tape.Tape.put_everywhere.Given as goal

abbrev pub invariant-loop-k : goal.invariant-loop-k
invariant-loop-k l = l.self-inside.queues.items ≡ so_far (Entry l.name l.word) l.k l.names l.fn.self

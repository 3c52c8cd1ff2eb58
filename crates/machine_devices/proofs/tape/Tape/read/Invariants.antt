use Rattle.std.proofs.Common.{length}
use Rattle.machine_devices.proofs.Reading.{IsReading}
use Rattle.machine_devices.proofs.tape.Tape.read.Given as goal

abbrev pub invariant-loop-end : goal.invariant-loop-end
invariant-loop-end l = IsReading l.text l.names l.line l.rest l.tape

abbrev pub decreases-loop-end : goal.decreases-loop-end
decreases-loop-end l = length l.rest

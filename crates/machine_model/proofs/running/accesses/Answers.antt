use Rattle.machine_model.proofs.Accessed.{nothing_stops, system_registers_are_reached, frames_are_aligned}
use Rattle.machine_model.proofs.running.accesses.Goals as goal

pub returns-clause-of_nothing : goal.returns-clause-of_nothing
returns-clause-of_nothing c = nothing_stops

pub returns-clause-of_system : goal.returns-clause-of_system
returns-clause-of_system c = system_registers_are_reached

pub returns-clause-of_frames : goal.returns-clause-of_frames
returns-clause-of_frames c = frames_are_aligned

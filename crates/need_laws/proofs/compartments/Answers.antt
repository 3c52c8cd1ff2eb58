use Rattle.need_laws.proofs.Inside.{calls_stay_inside, frames_are_grouped}
use Rattle.need_laws.proofs.compartments.Goals as goal

pub returns-clause-calls : goal.returns-clause-calls
returns-clause-calls c = calls_stay_inside

pub returns-clause-frames : goal.returns-clause-frames
returns-clause-frames c = frames_are_grouped

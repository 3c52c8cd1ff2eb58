use Rattle.need_laws.proofs.Owned.{waiting_frames_reach, frames_are_own}
use Rattle.need_laws.proofs.frames.Goals as goal

pub returns-clause-waiting : goal.returns-clause-waiting
returns-clause-waiting c = waiting_frames_reach

pub returns-clause-own : goal.returns-clause-own
returns-clause-own c = frames_are_own

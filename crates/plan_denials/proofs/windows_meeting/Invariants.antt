use Rattle.std.proofs.Common.{◌≡◌, ℕ, ◌<◌, None}
use Rattle.ir_program.specs.Seen.{program_of}
use Rattle.plan_denials.specs.Meetings.{window_meeting}
use Rattle.plan_denials.proofs.windows_meeting.Given as goal

abbrev pub invariant-loop-periph : goal.invariant-loop-periph
invariant-loop-periph l = (k : ℕ) → k < l.periph → window_meeting l.ranges (program_of l.program) k ≡ None

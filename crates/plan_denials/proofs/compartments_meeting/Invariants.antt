use Rattle.std.proofs.Common.{◌≡◌, ℕ, ◌<◌, None}
use Rattle.plan_denials.specs.Meetings.{compartment_meeting}
use Rattle.plan_denials.proofs.compartments_meeting.Given as goal

abbrev pub invariant-loop-compartment : goal.invariant-loop-compartment
invariant-loop-compartment l = (k : ℕ) → k < l.compartment → compartment_meeting l.ranges l.graph k ≡ None

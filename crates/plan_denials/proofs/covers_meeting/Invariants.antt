use Rattle.std.proofs.Common.{◌≡◌, ℕ, ◌<◌, None, get_or}
use Rattle.plan_model.specs.Covers.{no_cover}
use Rattle.plan_denials.specs.Meetings.{cover_meeting}
use Rattle.plan_denials.proofs.covers_meeting.Given as goal

abbrev pub invariant-loop-cover : goal.invariant-loop-cover
invariant-loop-cover l = (k : ℕ) → k < l.cover-index → cover_meeting l.ranges l.compartment (get_or l.covers k no_cover) ≡ None

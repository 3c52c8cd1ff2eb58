use Rattle.std.proofs.Common.{sym, arith}
use Rattle.plan_model.specs.Covers.{no_cover}
use Rattle.plan_denials.specs.Meetings.{cover_meeting, covers_meeting}
use Rattle.plan_denials.proofs.First.{none_of, here_of}
use Rattle.plan_denials.proofs.covers_meeting.Goals as goal

pub returns-in-Some : goal.returns-in-Some
unfolding covers_meeting
returns-in-Some c =
    here_of (cover_meeting c.args.ranges.now c.args.compartment) c.args.covers.now c.loop-cover.cover-index no_cover c.in-Some.meeting c.loop-cover-test.true c.loop-cover.invariant (sym c.in-Some.ensures)

pub returns : goal.returns
unfolding covers_meeting
returns c =
    let ended = c.loop-cover-test.false in
    none_of (cover_meeting c.args.ranges.now c.args.compartment) c.args.covers.now no_cover (λ k l. c.loop-cover.invariant k (omega (arith, ended, l)))

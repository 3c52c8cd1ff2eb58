use Rattle.std.proofs.Common.{arith}
use Rattle.plan_denials.specs.Meetings.{compartment_meeting, compartments_meeting}
use Rattle.plan_denials.proofs.First.{none_below, here_below}
use Rattle.plan_denials.proofs.compartments_meeting.Goals as goal

pub returns-in-Some : goal.returns-in-Some
unfolding compartments_meeting
returns-in-Some c =
    here_below (compartment_meeting c.args.ranges.now c.args.graph.now) c.args.graph.now.groups.count c.loop-compartment.compartment c.in-Some.meeting c.loop-compartment-test.true c.loop-compartment.invariant c.in-Some.ensures

pub returns : goal.returns
unfolding compartments_meeting
returns c =
    let ended = c.loop-compartment-test.false in
    none_below (compartment_meeting c.args.ranges.now c.args.graph.now) c.args.graph.now.groups.count (λ k l. c.loop-compartment.invariant k (omega (arith, ended, l)))

use Rattle.std.proofs.Common.{length, arith}
use Rattle.std.proofs.lemmas.List.{length-map}
use Rattle.ir_program.specs.Parts.{span_of}
use Rattle.ir_program.specs.Seen.{program_of}
use Rattle.plan_denials.specs.Meetings.{window_meeting, windows_meeting}
use Rattle.plan_denials.proofs.First.{none_below, here_below}
use Rattle.plan_denials.proofs.windows_meeting.Goals as goal

pub returns-in-Some : goal.returns-in-Some
unfolding windows_meeting
returns-in-Some c =
    let p = program_of c.args.program.now in
    let size = length-map c.args.program.now.periphs span_of in
    let count = c.len-periph-end.ensures in
    let next = c.loop-periph-test.true in
    here_below (window_meeting c.args.ranges.now p) (length p.periphs) c.loop-periph.periph c.in-Some.meeting (omega (arith, next, count, size)) c.loop-periph.invariant c.in-Some.ensures

pub returns : goal.returns
unfolding windows_meeting
returns c =
    let p = program_of c.args.program.now in
    let size = length-map c.args.program.now.periphs span_of in
    let count = c.len-periph-end.ensures in
    let ended = c.loop-periph-test.false in
    none_below (window_meeting c.args.ranges.now p) (length p.periphs) (λ k l. c.loop-periph.invariant k (omega (arith, ended, count, size, l)))

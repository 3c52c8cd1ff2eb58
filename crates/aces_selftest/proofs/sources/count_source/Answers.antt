use Rattle.std.proofs.Common.{◌≡◌, sym, subst, arith}
use Rattle.aces_selftest.proofs.SourceTurns.{Runs, begun, ran, told_of, ended_by, counted}
use Rattle.aces_selftest.proofs.Going.{Going, ran_out}
use Rattle.ir_model.specs.Step.{source_step, source_event}
use Rattle.ir_output.specs.SourceRuns.{ending_of}
use Rattle.aces_selftest.proofs.sources.count_source.Goals as goal
use Rattle.aces_selftest.proofs.sources.count_source.Goals.{in-Ran, in-Event+in_ok-push-in-Event}

pub loop-made-init : goal.loop-made-init
loop-made-init c =
    let r = c.args.run.now in
    subst (λ es. Runs r.program r.compartments r.state 0 r es) (sym c.new-events.ensures.items) (begun r c.requires.first c.requires.begins)

pub loop-made-preserved : goal.loop-made-preserved
loop-made-preserved c =
    let r = c.args.run.now in
    let old = c.loop-made.run in
    let new = c.step.new.self in
    let a = c.in_ok-answer.answer in
    let made = c.loop-made.made in
    let told = c.loop-made.events.items in
    let step = c.in_ok-answer.ensures.step in
    elim c.match-answer.branch [
      | in-Ran w ↦ rw w.events-is (ran r.program r.compartments r.state made old new told c.loop-made.invariant a step w.in-Ran.is)
      | in-Event+in_ok-push-in-Event w ↦
          rw (w.events-is, w.in_ok-push-in-Event.ensures.items)
          (told_of r.program r.compartments r.state made old new told c.loop-made.invariant a w.in-Event.event step w.in-Event.is)
    ]

pub returns-in-Ended : goal.returns-in-Ended
returns-in-Ended c =
    let r = c.args.run.now in
    counted r.program r.compartments c.args.limit r.state _
    (ended_by r.program r.compartments r.state c.loop-made.made c.loop-made.run c.step.new.self c.loop-made.events.items c.loop-made.invariant
    c.args.limit c.in_ok-answer.answer c.in-Ended.end c.loop-made-test.true c.in_ok-answer.ensures.step c.in-Ended.is)

pub returns : goal.returns
returns c =
    let r = c.args.run.now in
    let all : c.loop-made.made ≡ c.args.limit = omega (arith, c.loop-made-test.false, c.loop-made.auto) in
    let step = source_step r.program r.compartments in
    let event = source_event r.program r.compartments in
    let told = c.loop-made.events.items in
    counted r.program r.compartments c.args.limit r.state _
    (ran_out ending_of step event r.state c.args.limit c.loop-made.run.state told
    (subst (λ n. Going ending_of step event r.state n c.loop-made.run.state told) all c.loop-made.invariant.going))

use Rattle.std.proofs.Common.{◌≡◌, sym, subst, arith}
use Rattle.aces_selftest.proofs.MachineTurns.{Runs, begun, ran, told_of, ended_by, counted}
use Rattle.aces_selftest.proofs.Going.{Going, ran_out}
use Rattle.aces_selftest.specs.TakesSteps.{machine_ending_of}
use Rattle.machine_model.specs.Step.{step, event}
use Rattle.aces_selftest.proofs.machines.count_machine.Goals as goal
use Rattle.aces_selftest.proofs.machines.count_machine.Goals.{in-Ran, in-Event+in_ok-push-in-Event}

pub loop-made-init : goal.loop-made-init
loop-made-init c =
    let first = c.args.machine.now in
    subst (λ es. Runs first.image first.state 0 first es) (sym c.new-events.ensures.items) (begun first c.requires)

pub loop-made-preserved : goal.loop-made-preserved
loop-made-preserved c =
    let first = c.args.machine.now in
    let old = c.loop-made.machine in
    let new = c.step-answer.new.self in
    let a = c.step-answer.result in
    let made = c.loop-made.made in
    let told = c.loop-made.events.items in
    let s = c.step-answer.ensures in
    elim c.match-answer.branch [
      | in-Ran w ↦ rw w.events-is (ran first.image first.state made old new told c.loop-made.invariant s.state a s.answer w.in-Ran.is)
      | in-Event+in_ok-push-in-Event w ↦
          rw (w.events-is, w.in_ok-push-in-Event.ensures.items)
          (told_of first.image first.state made old new told c.loop-made.invariant s.state a s.answer w.in-Event.event w.in-Event.is)
    ]

pub returns-in-Ended : goal.returns-in-Ended
returns-in-Ended c =
    let first = c.args.machine.now in
    let s = c.step-answer.ensures in
    counted first.image c.args.limit first.state _
    (ended_by first.image first.state c.loop-made.made c.loop-made.machine c.step-answer.new.self c.loop-made.events.items c.loop-made.invariant s.state
    c.step-answer.result s.answer c.steps_end_or_go_on.ensures c.args.limit c.in-Ended.end c.loop-made-test.true c.in-Ended.is)

pub returns : goal.returns
returns c =
    let first = c.args.machine.now in
    let m = c.loop-made.machine in
    let all : c.loop-made.made ≡ c.args.limit = omega (arith, c.loop-made-test.false, c.loop-made.auto) in
    counted first.image c.args.limit first.state _
    (ran_out machine_ending_of (step first.image) (event first.image) first.state c.args.limit m.state c.loop-made.events.items
    (subst (λ n. Going machine_ending_of (step first.image) (event first.image) first.state n m.state c.loop-made.events.items) all c.loop-made.invariant.going))

use Rattle.std.proofs.Common.{◌≡◌, ◌≤◌, true, false, ap, sym, subst, ◌∙◌, arith}
use Rattle.std.specs.Fn.{FnReturnsAt, CalledAt}
use Rattle.base_events.specs.declared.event.Event.{Event}
use Rattle.machine_model.specs.declared.state.End.TheVariants.{Limit}
use Rattle.machine_emulator.specs.Machine.{MachineState}
use Rattle.machine_watch.specs.declared.session.Pause.TheVariants.{Ended}
use Rattle.machine_watch.specs.Answers.{AnswersEqually}
use Rattle.machine_watch.specs.Sessions.{SessionState}
use Rattle.machine_watch.specs.Watched.{IsWatched}
use Rattle.machine_emulator.proofs.StepAnswers.{silent, own_of}
use Rattle.machine_watch.proofs.Turns.{quiet, tells, ended, idle, idle_ended, idle_going}
use Rattle.machine_watch.proofs.Pieces.{Went, went_none, misses_none, went_quiet, misses_quiet, went_told, misses_told, pause_hit, pause_ended, pause_over, pause_at_once}
use Rattle.machine_watch.proofs.session.Session.go.Goals as goal
use Rattle.machine_watch.proofs.session.Session.go.Goals.{in-Ran, in-Event+else-ask}

pub returns-in_default : goal.returns-in_default
returns-in_default g c =
    let s = c.args.self.now in
    let f = c.args.each.now in
    let calls : g.row.G.Denot → Event → g.row.G.Denot → Type 0 = λ f e h. CalledAt g.G.FnMut f e tt h in
    let answers = FnReturnsAt g.F.Fn s.callback in
    let e = c.run.result in
    let held : MachineState → SessionState g.row.F.Denot = λ m. record { machine = m; taken = c.self.inside.taken; callback = c.self.inside.watch.callback } in
    let same : c.run.new.self ≡ c.self.inside.machine = idle _ _ _ _ _ e c.run.ensures in
    let here : held c.run.new.self ≡ s = ap held same ∙ c.self.view_is in
    let own = idle_ended _ _ _ _ _ e c.in_default.not-Limit c.run.ensures in
    subst (λ t. IsWatched answers calls c.args.n s t f f (Ended e)) (sym here)
    (pause_at_once answers calls s f c.args.n e own.1 (sym (ap (λ (t : SessionState g.row.F.Denot). t.machine.state.ending) here) ∙ own.0))

pub loop-step-init : goal.loop-step-init
loop-step-init g c =
    let s = c.args.self.now in
    let f = c.args.each.now in
    let calls : g.row.G.Denot → Event → g.row.G.Denot → Type 0 = λ f e h. CalledAt g.G.FnMut f e tt h in
    let answers = FnReturnsAt g.F.Fn s.callback in
    let held : MachineState → SessionState g.row.F.Denot = λ m. record { machine = m; taken = c.self.inside.taken; callback = c.self.inside.watch.callback } in
    let same : c.run.new.self ≡ c.self.inside.machine = idle _ _ _ _ _ c.run.result c.run.ensures in
    let here : held c.run.new.self ≡ s = ap held same ∙ c.self.view_is in
    record {
      callable = c.requires.each;
      went = subst (λ t. Went calls s f 0 t f) (sym here) (went_none answers calls s f);
      misses = misses_none answers calls s f;
      goes_on = idle_going _ _ _ _ _ c.run.result c.in-Limit.is c.run.ensures;
    }

pub ask-requires-clause-equally : goal.ask-requires-clause-equally
ask-requires-clause-equally g c = subst (λ k. AnswersEqually (FnReturnsAt g.F.Fn k)) (sym c.loop-step.invariant.went.same_callback) c.requires.equally

pub returns-then-ask : goal.returns-then-ask
returns-then-ask g c =
    let s = c.args.self.now in
    let calls : g.row.G.Denot → Event → g.row.G.Denot → Type 0 = λ f e h. CalledAt g.G.FnMut f e tt h in
    let answers = FnReturnsAt g.F.Fn s.callback in
    let v = c.loop-step.invariant in
    let m = c.loop-step.self-inside.machine in
    let x = c.in-Event.event in
    let t = tells m.image m.state x (sym c.in-Event.is ∙ c.step.ensures.answer) in
    let hit = subst (λ k. FnReturnsAt g.F.Fn k x true) v.went.same_callback (subst (FnReturnsAt g.F.Fn c.loop-step.self-inside.watch.callback x) c.if-ask.true c.ask.ensures) in
    rw c.step.ensures.state (pause_hit answers calls s c.args.each.now c.loop-step._step _ c.loop-step.each v.went c.args.n x c.give.new.each c.loop-step-test.true v.goes_on v.misses t.1 c.give.ensures.called hit)

pub returns-in-Ended : goal.returns-in-Ended
returns-in-Ended g c =
    let s = c.args.self.now in
    let calls : g.row.G.Denot → Event → g.row.G.Denot → Type 0 = λ f e h. CalledAt g.G.FnMut f e tt h in
    let answers = FnReturnsAt g.F.Fn s.callback in
    let v = c.loop-step.invariant in
    let m = c.loop-step.self-inside.machine in
    let e = c.in-Ended.end in
    let end = ended m.image m.state e (sym c.in-Ended.is ∙ c.step.ensures.answer) in
    let own = own_of _ e (rw c.step.ensures.state at c.step.ensures.kept.own) end in
    rw c.step.ensures.state (pause_ended answers calls s c.args.each.now c.loop-step._step _ c.loop-step.each v.went c.args.n e c.loop-step-test.true v.goes_on v.misses (silent m.image m.state e end) own end)

pub loop-step-preserved : goal.loop-step-preserved
loop-step-preserved g c =
    let s = c.args.self.now in
    let f = c.args.each.now in
    let k = c.loop-step._step in
    let calls : g.row.G.Denot → Event → g.row.G.Denot → Type 0 = λ f e h. CalledAt g.G.FnMut f e tt h in
    let answers = FnReturnsAt g.F.Fn s.callback in
    let v = c.loop-step.invariant in
    let m = c.loop-step.self-inside.machine in
    elim c.match-step.branch [
      | in-Ran w ↦ (
          let t = quiet m.image m.state (sym w.in-Ran.is ∙ c.step.ensures.answer) in
          record {
            callable = rw w.each-is v.callable;
            went = rw (c.step.ensures.state, w.each-is) (went_quiet answers calls s f k _ c.loop-step.each v.went v.goes_on t.1);
            misses = misses_quiet answers calls s f k _ c.loop-step.each v.went v.misses t.1;
            goes_on = rw c.step.ensures.state t.0;
          })
      | in-Event+else-ask w ↦ (
          let x = w.in-Event.event in
          let t = tells m.image m.state x (sym w.in-Event.is ∙ c.step.ensures.answer) in
          let missed = subst (λ k. FnReturnsAt g.F.Fn k x false) v.went.same_callback (subst (FnReturnsAt g.F.Fn c.loop-step.self-inside.watch.callback x) w.if-ask.false w.ask.ensures) in
          record {
            callable = rw w.each-is w.give.ensures.callable;
            went = rw (c.step.ensures.state, w.each-is) (went_told answers calls s f k _ c.loop-step.each v.went x w.give.new.each v.goes_on t.1 w.give.ensures.called);
            misses = misses_told answers calls s f k _ c.loop-step.each v.went x v.misses t.1 missed;
            goes_on = rw c.step.ensures.state t.0;
          })
    ]

pub returns : goal.returns
returns g c =
    let s = c.args.self.now in
    let calls : g.row.G.Denot → Event → g.row.G.Denot → Type 0 = λ f e h. CalledAt g.G.FnMut f e tt h in
    let answers = FnReturnsAt g.F.Fn s.callback in
    let v = c.loop-step.invariant in
    let end = c.loop-step.auto._step-end in
    let out = c.loop-step-test.false in
    let all : c.loop-step._step ≡ c.args.n = omega arith in
    let few : c.loop-step._step ≤ c.args.n = omega arith in
    pause_over answers calls s c.args.each.now c.loop-step._step _ c.loop-step.each v.went c.args.n Limit few v.misses (all, v.goes_on)

use Rattle.std.proofs.Common.{◌≡◌, ◌+◌, true, false, refl, ap, sym, subst, ◌∙◌, arith}
use Rattle.std.specs.Prelude.{IfSome}
use Rattle.std.specs.Fn.{FnReturnsAt}
use Rattle.machine_model.specs.Step.{step, event}
use Rattle.machine_watch.specs.Answers.{AnswersEqually}
use Rattle.machine_watch.specs.Watched.{IsPauseOf}
use Rattle.base_outside.specs.Sinks.{Puts, sink}
use Rattle.machine_output.specs.Runs.{HasLine}
use Rattle.machine_output.proofs.Windows.{event_known, name_is_short}
use Rattle.machine_output.proofs.Going.{IsGoing, going_none, going_more, paused, broken, ran_out, stepped_says, stepped_puts, stepped_to, told_has}
use Rattle.machine_output.proofs.watching.print_to_pause.Goals as goal

pub loop-step-init : goal.loop-step-init
loop-step-init g c =
    let s = c.args.session.now in
    record {
      image = refl;
      callback = refl;
      taken = omega arith;
      going = going_none (FnReturnsAt g.F.Fn s.callback) c.args.image.now s.machine.state (sink g.O.Sink c.args.out.now) c.requires.begins;
    }

pub step_once-stepped-requires-clause-equally : goal.step_once-stepped-requires-clause-equally
step_once-stepped-requires-clause-equally g c = subst (λ k. AnswersEqually (FnReturnsAt g.F.Fn k)) (sym c.loop-step.invariant.callback) c.requires.equally

pub put_told-requires : goal.put_told-requires
put_told-requires g c =
    let i = c.args.image.now in
    let here = c.loop-step.session in
    let w = c.step_once-stepped.ensures in
    let image = c.loop-step.invariant.image ∙ c.requires.image in
    subst (λ ws. IfSome c.step_once-stepped.result.told (HasLine ws)) (sym c.as_slice-windows.ensures)
    (told_has i here.machine.state c.step_once-stepped.result.told (HasLine i.windows) (λ x h. record { known = event_known c.listed_accesses.ensures.events i here.machine.state x h; short = name_is_short i x.periph c.requires.rules })
    (w.is_told ∙ ap (λ j. event j here.machine.state) image))

pub returns-then-not-put_told-clause-err : goal.returns-then-not-put_told-clause-err
returns-then-not-put_told-clause-err g c =
    let first = c.args.session.now in
    let i = c.args.image.now in
    let here = c.loop-step.session in
    let v = c.loop-step.invariant in
    let next = c.step_once-stepped.new.session in
    let w = c.step_once-stepped.ensures in
    let image = v.image ∙ c.requires.image in
    let old = sink g.O.Sink c.args.out.now in
    let now = sink g.O.Sink c.loop-step.out in
    let later = sink g.O.Sink c.put_told.new.out in
    let failed = subst (Puts now later _) c.if-not-put_told.true c.put_told.ensures in
    let put = stepped_puts _ i _ here next _ _ now later false c.as_slice-windows.ensures image w failed in
    broken (FnReturnsAt g.F.Fn first.callback) i first.machine.state old c.args.steps c.loop-step._step here.machine.state now later v.going c.loop-step-test.true refl put

pub returns-then-not-goes_on-clause-ok : goal.returns-then-not-goes_on-clause-ok
returns-then-not-goes_on-clause-ok g c =
    let first = c.args.session.now in
    let i = c.args.image.now in
    let here = c.loop-step.session in
    let v = c.loop-step.invariant in
    let next = c.step_once-stepped.new.session in
    let w = c.step_once-stepped.ensures in
    let image = v.image ∙ c.requires.image in
    let old = sink g.O.Sink c.args.out.now in
    let now = sink g.O.Sink c.loop-step.out in
    let later = sink g.O.Sink c.put_told.new.out in
    let says = stepped_says (λ f. FnReturnsAt g.F.Fn f) i first.callback here next _ _ v.callback image w in
    let done = subst (Puts now later _) c.if-not-put_told.false c.put_told.ensures in
    let put = stepped_puts _ i _ here next _ _ now later true c.as_slice-windows.ensures image w done in
    paused (FnReturnsAt g.F.Fn first.callback) i first.machine.state old c.args.steps c.loop-step._step here.machine.state now later v.going
    _ (c.goes_on.ensures.no c.if-not-goes_on.true) c.loop-step-test.true refl put says

pub loop-step-preserved : goal.loop-step-preserved
loop-step-preserved g c =
    let first = c.args.session.now in
    let i = c.args.image.now in
    let here = c.loop-step.session in
    let v = c.loop-step.invariant in
    let next = c.step_once-stepped.new.session in
    let w = c.step_once-stepped.ensures in
    let image = v.image ∙ c.requires.image in
    let old = sink g.O.Sink c.args.out.now in
    let now = sink g.O.Sink c.loop-step.out in
    let later = sink g.O.Sink c.put_told.new.out in
    let says = stepped_says (λ f. FnReturnsAt g.F.Fn f) i first.callback here next _ _ v.callback image w in
    let on = subst (IsPauseOf (FnReturnsAt g.F.Fn first.callback) i 1 1 here.machine.state (step i here.machine.state)) (c.goes_on.ensures.yes c.if-not-goes_on.false) says in
    let done = subst (Puts now later _) c.if-not-put_told.false c.put_told.ensures in
    let put = stepped_puts _ i _ here next _ _ now later true c.as_slice-windows.ensures image w done in
    let before = v.taken in
    let more = w.taken in
    record {
      image = w.image ∙ v.image;
      callback = w.callback ∙ v.callback;
      taken = omega arith;
      going = subst (λ t. IsGoing (FnReturnsAt g.F.Fn first.callback) i first.machine.state old (c.loop-step._step + 1) t later) (sym (stepped_to _ i here next _ _ image w))
          (going_more (FnReturnsAt g.F.Fn first.callback) i first.machine.state old c.args.steps c.loop-step._step here.machine.state now later v.going refl put on);
    }

pub returns-clause-ok : goal.returns-clause-ok
returns-clause-ok g c =
    let first = c.args.session.now in
    let end = c.loop-step.auto._step-end in
    let out = c.loop-step-test.false in
    let all : c.loop-step._step ≡ c.args.steps = omega arith in
    ran_out (FnReturnsAt g.F.Fn first.callback) c.args.image.now first.machine.state (sink g.O.Sink c.args.out.now) c.args.steps c.loop-step._step c.loop-step.session.machine.state
    (sink g.O.Sink c.loop-step.out) all c.loop-step.invariant.going

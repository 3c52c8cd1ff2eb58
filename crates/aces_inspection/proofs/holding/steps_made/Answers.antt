use Rattle.std.proofs.Math.Nat.{eq-or-lt_of_le}
use Rattle.std.proofs.Common.{◌≡◌, ℕ, ◌≤◌, inl, inr, None, Some, refl, ap, sym, subst, ◌∙◌, arith}
use Rattle.base_words.specs.Runs.{run}
use Rattle.base_words.proofs.Runs.{run_none}
use Rattle.base_words.proofs.EventLines.{run_behind}
use Rattle.machine_model.specs.State.{State}
use Rattle.machine_model.specs.Step.{step}
use Rattle.machine_emulator.specs.Machine.{MachineState}
use Rattle.aces_inspection.proofs.holding.steps_made.Goals as goal

pub loop-made-init : goal.loop-made-init
loop-made-init c =
    let m = c.args.machine.now in
    record { image = refl; state = sym (run_none (step m.image) m.state); goes_on = λ k l. let wrong : ⊥ = omega arith in absurd wrong }

pub loop-made-preserved : goal.loop-made-preserved
loop-made-preserved c =
    let i = c.args.machine.now.image in
    let s = c.args.machine.now.state in
    let n : ℕ = c.loop-made.made in
    let here = c.loop-made.machine in
    let v = c.loop-made.invariant in
    let on : (run (step i) n s).ending ≡ None = ap (λ (x : State). x.ending) (sym v.state) ∙ (sym c.ending.ensures ∙ c.in-None.is) in
    record {
      image = ap (λ (m : MachineState). m.image) c.step.ensures.state ∙ v.image;
      state = ap (λ (m : MachineState). m.state) c.step.ensures.state ∙ ap (λ j. step j here.state) v.image ∙ ap (step i) v.state ∙ sym (run_behind (step i) n s);
      goes_on = λ k l.
          let le : k ≤ n = omega arith in
          elim (eq-or-lt_of_le le) [ inl same ↦ subst (λ x. (run (step i) x s).ending ≡ None) (sym same) on | inr less ↦ v.goes_on k less ];
    }

pub returns-in-Some-clause-run : goal.returns-in-Some-clause-run
returns-in-Some-clause-run c =
    let v = c.loop-made.invariant in
    let test = c.loop-made-test.true in
    record {
      few = omega arith;
      goes_on = v.goes_on;
      over = inr (λ none. let wrong : Some _ ≡ None = sym c.in-Some.is ∙ c.ending.ensures ∙ ap (λ (x : State). x.ending) v.state ∙ none in cc);
    }

pub returns-clause-run : goal.returns-clause-run
returns-clause-run c =
    let v = c.loop-made.invariant in
    let end = c.loop-made.auto.made-end in
    let out = c.loop-made-test.false in
    let all : c.loop-made.made ≡ c.args.most = omega arith in
    record { few = omega arith; goes_on = λ k l. v.goes_on k (omega arith); over = inl refl }

pub returns-clause-state : goal.returns-clause-state
returns-clause-state c =
    let i = c.args.machine.now.image in
    let end = c.loop-made.auto.made-end in
    let out = c.loop-made-test.false in
    let all : c.loop-made.made ≡ c.args.most = omega arith in
    c.loop-made.invariant.state ∙ ap (λ n. run (step i) n c.args.machine.now.state) all

use Rattle.std.proofs.Common.{◌≡◌, refl, ap, sym, ◌∙◌, arith}
use Rattle.base_words.specs.Runs.{run}
use Rattle.base_words.proofs.Runs.{run_none}
use Rattle.base_words.proofs.EventLines.{run_behind}
use Rattle.ir_model.specs.Step.{source_step}
use Rattle.ir_run.specs.Runs.{RunState}
use Rattle.aces_where.proofs.running.go.Goals as goal

pub loop-step-init : goal.loop-step-init
loop-step-init c =
    let r = c.args.run.now in
    record { program = refl; compartments = refl; state = sym (run_none (source_step r.program r.compartments) r.state); taken = c.requires }

pub loop-step-preserved : goal.loop-step-preserved
loop-step-preserved c =
    let r = c.args.run.now in
    let inv = c.loop-step.invariant in
    let k = c.loop-step._step in
    let old = c.loop-step.run in
    let onward = c.in_ok-step.ensures.step.onward in
    record {
      program = ap (λ (x : RunState). x.program) onward ∙ inv.program;
      compartments = ap (λ (x : RunState). x.compartments) onward ∙ inv.compartments;
      state = ap (λ (x : RunState). x.state) onward ∙ ap (λ q. source_step q old.compartments old.state) inv.program
          ∙ ap (λ d. source_step r.program d old.state) inv.compartments ∙ ap (source_step r.program r.compartments) inv.state
          ∙ sym (run_behind (source_step r.program r.compartments) k r.state);
      taken = omega (arith, ap (λ (x : RunState). x.taken) onward, inv.taken);
    }

pub returns-clause-state : goal.returns-clause-state
returns-clause-state c =
    let r = c.args.run.now in
    let end = c.loop-step.auto._step-end in
    let out = c.loop-step-test.false in
    let all : c.loop-step._step ≡ c.args.steps = omega arith in
    c.loop-step.invariant.state ∙ ap (λ n. run (source_step r.program r.compartments) n r.state) all

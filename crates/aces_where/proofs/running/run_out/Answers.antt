use Rattle.std.proofs.Common.{◌≡◌, ◌+◌, None, refl, ap, sym, ◌∙◌, arith}
use Rattle.base_words.specs.Runs.{run}
use Rattle.base_words.proofs.Runs.{run_none}
use Rattle.base_words.proofs.EventLines.{run_behind}
use Rattle.ir_model.specs.Step.{source_step}
use Rattle.ir_output.specs.SourceRuns.{ending_of}
use Rattle.ir_output.proofs.Sources.{HasRun, not_begun, ran, told, ends}
use Rattle.aces_where.proofs.Stops.{one_more, only_first}
use Rattle.aces_where.proofs.running.run_out.Goals as goal
use Rattle.aces_where.proofs.running.run_out.Goals.{in-Ran, in-Event}

pub loop-going-init : goal.loop-going-init
loop-going-init c =
    let r = c.args.run.now in
    record {
      behind = not_begun r c.requires.first c.requires.begins;
      goes_on = only_first (λ k. ending_of (run (source_step r.program r.compartments) k r.state) ≡ None)
          (ap ending_of (run_none (source_step r.program r.compartments) r.state) ∙ c.requires.begins);
    }

pub loop-going-preserved : goal.loop-going-preserved
loop-going-preserved c =
    let r = c.args.run.now in
    let inv = c.loop-going.invariant in
    let k = c.loop-going.going in
    let old = c.loop-going.run in
    let new = c.step.new.self in
    let a = c.in_ok-answer.answer in
    let step = c.in_ok-answer.ensures.step in
    let more : HasRun r.program r.compartments r.state (k + 1) new =
    elim c.match-answer.branch [
      | in-Ran w ↦ ran r.program r.compartments r.state k old new inv.behind a step w.in-Ran.is
      | in-Event w ↦ told r.program r.compartments r.state k old new inv.behind a w.in-Event.field-0 step w.in-Event.is
    ] in
    record {
      behind = more;
      goes_on = one_more (λ n. ending_of (run (source_step r.program r.compartments) n r.state) ≡ None) k inv.goes_on
          (sym (ap ending_of more.state) ∙ more.goes);
    }

pub returns-in-Ended : goal.returns-in-Ended
returns-in-Ended c =
    let r = c.args.run.now in
    let inv = c.loop-going.invariant in
    let k = c.loop-going.going in
    record {
      goes_on = inv.goes_on;
      over = (
        c.loop-going-test.true,
        (
          refl,
          run_behind (source_step r.program r.compartments) k r.state
              ∙ ends r.program r.compartments r.state k c.loop-going.run c.step.new.self inv.behind c.args.most c.loop-going-test.true c.in_ok-answer.answer c.in-Ended.end
              c.in_ok-answer.ensures.step c.in-Ended.is,
        ),
      );
    }

pub returns : goal.returns
returns c =
    let inv = c.loop-going.invariant in
    let end = c.loop-going.auto.going-end in
    let out = c.loop-going-test.false in
    let all : c.loop-going.going ≡ c.args.most = omega arith in
    record { goes_on = λ k l. inv.goes_on k (omega arith); over = (refl, refl) }

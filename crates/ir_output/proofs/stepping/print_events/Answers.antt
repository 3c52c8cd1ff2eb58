use Rattle.std.proofs.Common.{◌++◌, refl, ap, sym, ◌∙◌, arith, append-nil, append_assoc}
use Rattle.ir_model.specs.Step.{source_step, source_event}
use Rattle.machine_lines.specs.Lines.{event_line}
use Rattle.ir_output.specs.SourceRuns.{event_lines}
use Rattle.base_words.proofs.EventLines.{lines_none, lines_quiet, lines_told, lines_more, lines_cut}
use Rattle.base_outside.proofs.Prefixes.{prefix_part, prefix_front, on_err}
use Rattle.ir_output.proofs.Sources.{not_begun, ran, ran_quiet, told, told_event, ended_so, same_lines}
use Rattle.ir_output.proofs.stepping.print_events.Goals as goal
use Rattle.ir_output.proofs.stepping.print_events.Goals.{in-Ran, in-Event+in_ok-put-in-Event}

pub loop-step-init : goal.loop-step-init
loop-step-init g c =
    let r = c.args.run.now in
    let w = g.O.Sink.written c.args.out.now in
    record {
      behind = not_begun r c.requires.first c.requires.begins;
      faults = refl;
      written = λ t. sym (ap (λ l. w ++ l) (lines_none (source_step r.program r.compartments) (source_event r.program r.compartments) (event_line c.args.windows.now) r.state) ∙ append-nil w);
    }

pub returns-in_err-answer-clause-part : goal.returns-in_err-answer-clause-part
returns-in_err-answer-clause-part g c t =
    let r = c.args.run.now in
    let inv = c.loop-step.invariant in
    let more = lines_more (source_step r.program r.compartments) (source_event r.program r.compartments) (event_line c.args.windows.now) c.loop-step._step c.args.steps r.state (omega arith) in
    on_err _ _ (prefix_front _ _ _ more.0 _ (inv.written t) more.1)

pub returns-in_err-put-in-Event-clause-part : goal.returns-in_err-put-in-Event-clause-part
returns-in_err-put-in-Event-clause-part g c t =
    let r = c.args.run.now in
    let inv = c.loop-step.invariant in
    let here = told_event r.program r.compartments r.state c.loop-step._step c.loop-step.run c.step.new.self inv.behind c.in_ok-answer.answer c.in-Event.event c.in_ok-answer.ensures.step c.in-Event.is in
    let line = event_line c.args.windows.now in
    let cut = lines_cut (source_step r.program r.compartments) (source_event r.program r.compartments) line c.loop-step._step c.args.steps r.state c.in-Event.event c.loop-step-test.true here in
    on_err _ _ (prefix_part _ (g.O.Sink.written c.loop-step.out) _ _ (line c.in-Event.event) cut.0 _ (inv.written t)
    (rw (c.as_slice.ensures, c.event_line.ensures) at c.in_err-put-in-Event.ensures.failed) cut.1)

pub returns-in-Ended-clause-end : goal.returns-in-Ended-clause-end
returns-in-Ended-clause-end g c =
    let r = c.args.run.now in
    ended_so r.program r.compartments r.state c.loop-step._step c.loop-step.run c.step.new.self c.loop-step.invariant.behind
    c.args.steps c.loop-step-test.true c.in_ok-answer.answer c.in-Ended.end c.in_ok-answer.ensures.step c.in-Ended.is

pub returns-in-Ended-clause-lines : goal.returns-in-Ended-clause-lines
returns-in-Ended-clause-lines g c t =
    let r = c.args.run.now in
    let inv = c.loop-step.invariant in
    inv.written t ∙ ap (λ l. g.O.Sink.written c.args.out.now ++ l)
    (sym (same_lines r.program r.compartments r.state c.loop-step._step c.loop-step.run c.step.new.self inv.behind
    c.args.steps c.loop-step-test.true c.in_ok-answer.answer c.in-Ended.end c.in_ok-answer.ensures.step c.in-Ended.is (event_line c.args.windows.now)))

pub loop-step-preserved : goal.loop-step-preserved
loop-step-preserved g c =
    let r = c.args.run.now in
    let inv = c.loop-step.invariant in
    let k = c.loop-step._step in
    let old = c.loop-step.run in
    let new = c.step.new.self in
    let a = c.in_ok-answer.answer in
    let step = c.in_ok-answer.ensures.step in
    let before = g.O.Sink.written c.args.out.now in
    let line = event_line c.args.windows.now in
    elim c.match-answer.branch [
      | in-Ran w ↦ (
          let here = ran_quiet r.program r.compartments r.state k old new inv.behind a step w.in-Ran.is in
          record {
            behind = ran r.program r.compartments r.state k old new inv.behind a step w.in-Ran.is;
            faults = rw w.out-is inv.faults;
            written = λ t. rw w.out-is (inv.written t)
                ∙ ap (λ l. before ++ l) (sym (lines_quiet (source_step r.program r.compartments) (source_event r.program r.compartments) line k r.state here));
          })
      | in-Event+in_ok-put-in-Event w ↦ (
          let x = w.in-Event.event in
          let here = told_event r.program r.compartments r.state k old new inv.behind a x step w.in-Event.is in
          let piece = w.as_slice.ensures ∙ w.event_line.ensures in
          record {
            behind = told r.program r.compartments r.state k old new inv.behind a x step w.in-Event.is;
            faults = rw w.out-is (w.in_ok-put-in-Event.ensures.counts.only_failed ∙ inv.faults);
            written = λ t. rw w.out-is (w.in_ok-put-in-Event.ensures.bytes t ∙ ap (λ l. g.O.Sink.written c.loop-step.out ++ l) piece)
                ∙ ap (λ l. l ++ line x) (inv.written t)
                ∙ append_assoc before (event_lines r.program r.compartments c.args.windows.now k r.state) (line x)
                ∙ ap (λ l. before ++ l) (sym (lines_told (source_step r.program r.compartments) (source_event r.program r.compartments) line k r.state x here));
          })
    ]

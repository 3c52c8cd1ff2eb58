use Rattle.std.proofs.Common.{[], ◌≡◌, ◌++◌, ap, sym, ◌∙◌, subst, append-nil, append_assoc}
use Rattle.base_outside.specs.Contents.{AddsPrefix}
use Rattle.ir_model.specs.Plain.{firmware_of}
use Rattle.ir_output.specs.SourceRuns.{end_line, source_end, source_event_lines}
use Rattle.base_outside.proofs.Prefixes.{prefix_part, prefix_longer, on_err}
use Rattle.ir_output.proofs.Causes.{same_cause, unprinted}
use Rattle.ir_output.proofs.print_source.Goals as goal

pub returns-in_err-end-clause-part : goal.returns-in_err-end-clause-part
returns-in_err-end-clause-part g c t =
    let w = firmware_of c.args.firmware.now in
    on_err _ _ (prefix_longer _ _ (source_event_lines w c.args.compartments.items c.args.tape c.args.steps) (end_line (source_end w c.args.compartments.items c.args.tape c.args.steps)) (c.in_err-end.ensures.part t))

pub returns-in_err-put-clause-part : goal.returns-in_err-put-clause-part
returns-in_err-put-clause-part g c t =
    let w = firmware_of c.args.firmware.now in
    let lines = source_event_lines w c.args.compartments.items c.args.tape c.args.steps in
    let last = end_line (source_end w c.args.compartments.items c.args.tape c.args.steps) in
    let piece : c.end_line.result.now ≡ last = c.end_line.ensures ∙ ap end_line c.in_ok-end.ensures.end in
    on_err _ _ (prefix_part (g.O.Sink.written c.args.out.now) (g.O.Sink.written c.print_run.new.out) (g.O.Sink.written c.put.new.self) lines last [] _
    (c.in_ok-end.ensures.lines t)
    (subst (AddsPrefix (g.O.Sink.written c.print_run.new.out) (g.O.Sink.written c.put.new.self)) piece c.in_err-put.ensures.failed)
    (ap (λ l. lines ++ l) (sym (append-nil last))))

pub returns-clause-lines : goal.returns-clause-lines
returns-clause-lines g c t =
    let w = firmware_of c.args.firmware.now in
    let lines = source_event_lines w c.args.compartments.items c.args.tape c.args.steps in
    let last = end_line (source_end w c.args.compartments.items c.args.tape c.args.steps) in
    let piece : c.end_line.result.now ≡ last = c.end_line.ensures ∙ ap end_line c.in_ok-end.ensures.end in
    c.in_ok-put.ensures.bytes t
    ∙ (ap (λ l. g.O.Sink.written c.print_run.new.out ++ l) piece
    ∙ (ap (λ l. l ++ last) (c.in_ok-end.ensures.lines t)
    ∙ append_assoc (g.O.Sink.written c.args.out.now) lines last))

pub returns-in_err-end-clause-cause : goal.returns-in_err-end-clause-cause
returns-in_err-end-clause-cause g c = same_cause _ c.in_err-end.field-0.0 _ _ c.from_residual.ensures.1 c.in_err-end.ensures.cause

pub returns-in_err-put-clause-cause : goal.returns-in_err-put-clause-cause
returns-in_err-put-clause-cause g c =
    unprinted _ _ _ _ c.from_residual-in_err-put.ensures.1 c.in_err-put.ensures.cause c.in_ok-end.ensures.faultless

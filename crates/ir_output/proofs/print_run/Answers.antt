use Rattle.std.proofs.Common.{◌≡◌, ◌≤◌, ◌++◌, length, ap, sym, ◌∙◌, subst, IfOk, OnOk, OnErr}
use Rattle.base_outside.specs.Contents.{AddsPrefix}
use Rattle.ir_model.specs.Plain.{firmware_of}
use Rattle.ir_model.specs.Resolve.{resolve}
use Rattle.ir_run.specs.Runs.{RunState}
use Rattle.machine_lines.specs.Lines.{name_of}
use Rattle.ir_output.specs.Ends.{seen_end}
use Rattle.ir_output.specs.SourceRuns.{ending_of}
use Rattle.ir_output.proofs.Begins.{goes_at_first, as_many, names_are_short, lines_of_run, end_of_run}
use Rattle.ir_output.proofs.print_run.Goals as goal

pub print_events-requires-clause-begins : goal.print_events-requires-clause-begins
print_events-requires-clause-begins g c =
    ap (λ (r : RunState). ending_of r.state) c.in_ok-run.ensures.run ∙ goes_at_first (resolve (firmware_of c.args.firmware.now)) c.args.tape

pub print_events-requires-clause-windows : goal.print_events-requires-clause-windows
print_events-requires-clause-windows g c =
    ap length c.requires.windows ∙ as_many (firmware_of c.args.firmware.now) ∙ sym (ap (λ (r : RunState). length r.program.periphs) c.in_ok-run.ensures.run)

pub print_events-requires-clause-short : goal.print_events-requires-clause-short
print_events-requires-clause-short g c k =
    subst (λ ws. length (name_of ws k) ≤ 64) (sym c.requires.windows) (names_are_short (firmware_of c.args.firmware.now) c.in_ok-run.ensures.within k)

pub returns-clause-end : goal.returns-clause-end
returns-clause-end g c =
    subst (λ e. IfOk c.print_events.result (λ end. seen_end end ≡ e))
    (end_of_run (firmware_of c.args.firmware.now) c.args.compartments.items c.args.tape c.args.steps c.in_ok-run.run' c.in_ok-run.ensures.run) c.print_events.ensures.end

pub returns-clause-lines : goal.returns-clause-lines
returns-clause-lines g c t =
    subst (λ l. OnOk c.print_events.result (g.O.Sink.written c.print_events.new.out ≡ g.O.Sink.written c.args.out.now ++ l))
    (lines_of_run (firmware_of c.args.firmware.now) c.args.compartments.items c.args.tape c.args.steps c.in_ok-run.run' c.in_ok-run.ensures.run c.args.windows.now c.requires.windows) (c.print_events.ensures.lines t)

pub returns-clause-part : goal.returns-clause-part
returns-clause-part g c t =
    subst (λ l. OnErr c.print_events.result (AddsPrefix (g.O.Sink.written c.args.out.now) (g.O.Sink.written c.print_events.new.out) l))
    (lines_of_run (firmware_of c.args.firmware.now) c.args.compartments.items c.args.tape c.args.steps c.in_ok-run.run' c.in_ok-run.ensures.run c.args.windows.now c.requires.windows) (c.print_events.ensures.part t)

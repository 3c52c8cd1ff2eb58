use Rattle.std.proofs.Common.{◌∙◌, ◌++◌, inr, refl, ap, sym, subst}
use Rattle.std.proofs.lemmas.Result.{err_from_is_err_and}
use Rattle.machine_devices.specs.Tape.{queues_of}
use Rattle.ir_model.specs.Plain.{firmware_of}
use Rattle.ir_output.specs.SourceRuns.{source_end, source_lines, end_status}
use Rattle.aces_words.specs.Requests.{Source}
use Rattle.aces_firmwares.specs.Answers.{SourceAnswer, no_tape, source_outcome}
use Rattle.aces_files.specs.Contents.{IsNoTape}
use Rattle.base_outside.specs.Sinks.{sink}
use Rattle.aces_files.specs.Effects.{Does, World}
use Rattle.aces_files.specs.Loads.{IsContentFailure}
use Rattle.aces_files.proofs.Ends.{content_failed, did_end}
use Rattle.aces_firmwares.proofs.Sourcing.{windows_made, has_run}
use Rattle.aces_firmwares.proofs.source.source_checked.Goals as goal

pub returns-in_err-tape_read : goal.returns-in_err-tape_read
returns-in_err-tape_read g c firmware bytes is told held reads writes =
    let tape = c.args.tape.now in
    let v = c.args.checked.now in
    let windows = windows_made v c.firmware.result.now c.as_slice.result.now c.in_ok-windows.windows.items c.as_slice-2.result.now
    c.in_ok-windows.ensures c.as_slice.ensures c.firmware.ensures.same c.as_slice-2.ensures.value in
    let all = SourceAnswer firmware c.args.policy tape c.args.steps bytes c.args.text.now in
    let r = Source firmware c.args.policy tape c.args.steps in
    let w : World = record { told = told; held = held; read_faults = reads; write_faults = writes; out = sink g.O.Sink c.args.out.now } in
    let x = err_from_is_err_and c.from_residual-in_err-tape_read.result c.from_residual-in_err-tape_read.ensures.1 in
    subst (Does all r w w) (sym x.1)
    (content_failed all (IsNoTape c.as_slice-2.result.now c.args.text.now) r tape w w (record { held = refl; write_faults = refl; out = refl }) refl
    (λ f h. no_tape (firmware_of v) f is (subst (λ ws. IsNoTape ws c.args.text.now f) windows h)) x.0
    (subst (IsContentFailure (IsNoTape c.as_slice-2.result.now c.args.text.now) tape) (sym x.2) c.in_err-tape_read.ensures.err))

pub returns-in-Ok : goal.returns-in-Ok
returns-in-Ok g c firmware bytes is told held reads writes =
    let v = c.args.checked.now in
    let text = c.args.text.now in
    let steps = c.args.steps in
    let windows = windows_made v c.firmware.result.now c.as_slice.result.now c.in_ok-windows.windows.items c.as_slice-2.result.now
    c.in_ok-windows.ensures c.as_slice.ensures c.firmware.ensures.same c.as_slice-2.ensures.value in
    let queues = c.in_ok-tape_read.ensures.ok ∙ ap (queues_of text) windows in
    let w : World = record { told = told; held = held; read_faults = reads; write_faults = writes; out = sink g.O.Sink c.args.out.now } in
    did_end (SourceAnswer firmware c.args.policy c.args.tape.now steps bytes text) (Source firmware c.args.policy c.args.tape.now steps)
    w (record w { out = sink g.O.Sink c.print_source.new.out }) (source_outcome (firmware_of v) c.in_ok-divided.divided.compartments.items text steps) c.done.result
    (has_run firmware c.args.policy c.args.tape.now steps bytes text v c.in_ok-divided.divided.compartments.items c.as_slice-2.result.now c.in_ok-divided.ensures.compartments is windows c.in_ok-tape_read.ensures.faultless)
    (sym (c.done.ensures ∙ ap end_status (c.in-Ok.ensures.end ∙ ap (λ q. source_end (firmware_of v) c.in_ok-divided.divided.compartments.items q steps) queues))) refl
    (record {
      printed = λ t. c.in-Ok.ensures.lines t ∙ ap (λ q. g.O.Sink.written c.args.out.now ++ source_lines (firmware_of v) c.in_ok-divided.divided.compartments.items q steps) queues;
      held = refl;
      read_faults = refl;
      write_faults = refl;
      faults = c.in-Ok.ensures.faultless;
    })

pub returns-in-Err-Unprinted : goal.returns-in-Err-Unprinted
returns-in-Err-Unprinted g c firmware bytes is told held reads writes =
    let v = c.args.checked.now in
    let text = c.args.text.now in
    let steps = c.args.steps in
    let windows = windows_made v c.firmware.result.now c.as_slice.result.now c.in_ok-windows.windows.items c.as_slice-2.result.now
    c.in_ok-windows.ensures c.as_slice.ensures c.firmware.ensures.same c.as_slice-2.ensures.value in
    let queues = c.in_ok-tape_read.ensures.ok ∙ ap (queues_of text) windows in (
      record { rose = rw c.in-Err-Unprinted.field-0-is at c.in-Err-Unprinted.ensures.cause; held = refl; read_faults = refl; write_faults = refl },
      record {
        outcome = source_outcome (firmware_of v) c.in_ok-divided.divided.compartments.items text steps;
        answer = has_run firmware c.args.policy c.args.tape.now steps bytes text v c.in_ok-divided.divided.compartments.items c.as_slice-2.result.now c.in_ok-divided.ensures.compartments is windows c.in_ok-tape_read.ensures.faultless;
        part = record { printed = λ t. rw queues at (c.in-Err-Unprinted.ensures.part t); held = refl };
      },
    )

pub returns : goal.returns
returns g c firmware bytes is told held reads writes =
    let v = c.args.checked.now in
    let text = c.args.text.now in
    let steps = c.args.steps in
    let windows = windows_made v c.firmware.result.now c.as_slice.result.now c.in_ok-windows.windows.items c.as_slice-2.result.now
    c.in_ok-windows.ensures c.as_slice.ensures c.firmware.ensures.same c.as_slice-2.ensures.value in
    let queues = c.in_ok-tape_read.ensures.ok ∙ ap (queues_of text) windows in (
      record { held = refl; read_faults = refl; write_faults = refl; faults = rw c.in-Err-NoMemory.field-0-is at c.in-Err-NoMemory.ensures.cause },
      inr (record {
        outcome = source_outcome (firmware_of v) c.in_ok-divided.divided.compartments.items text steps;
        answer = has_run firmware c.args.policy c.args.tape.now steps bytes text v c.in_ok-divided.divided.compartments.items c.as_slice-2.result.now c.in_ok-divided.ensures.compartments is windows c.in_ok-tape_read.ensures.faultless;
        part = record { printed = λ t. rw queues at (c.in-Err-NoMemory.ensures.part t); held = refl };
      }),
    )

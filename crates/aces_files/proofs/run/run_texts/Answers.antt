use Rattle.std.proofs.Common.{◌≡◌, ◌∙◌, ◌++◌, length, refl, ap, sym, subst}
use Rattle.std.proofs.lemmas.Result.{err_from_is_err_and}
use Rattle.machine_devices.specs.Tape.{queues_of, first_fault}
use Rattle.machine_emulator.specs.Machine.{MachineState}
use Rattle.machine_model.specs.Run.{start}
use Rattle.aces_words.specs.Requests.{Run}
use Rattle.aces_files.specs.Answers.{RunAnswer, no_image, no_tape, ran, run_outcome}
use Rattle.aces_files.specs.Contents.{IsNoImage, IsNoTape}
use Rattle.machine_output.specs.Runs.{fill, end_of, run_lines, end_status}
use Rattle.base_outside.specs.Sinks.{sink}
use Rattle.aces_files.specs.Effects.{Does, World}
use Rattle.aces_files.specs.Loads.{IsContentFailure}
use Rattle.aces_files.proofs.Ends.{content_failed, did_end}
use Rattle.aces_files.proofs.Starting.{queue_count, begins}
use Rattle.aces_files.proofs.run.run_texts.Goals as goal

pub returns-in_err-image_read : goal.returns-in_err-image_read
returns-in_err-image_read g c told held reads writes =
    let image = c.args.image.now in
    let all = RunAnswer image c.args.tape.now c.args.steps c.args.bytes.now c.args.text.now in
    let r = Run image c.args.tape.now c.args.steps in
    let w : World = record { told = told; held = held; read_faults = reads; write_faults = writes; out = sink g.O.Sink c.args.out.now } in
    let x = err_from_is_err_and c.from_residual.result c.from_residual.ensures.1 in
    subst (Does all r w w) (sym x.1)
    (content_failed all (IsNoImage c.args.bytes.now) r image w w (record { held = refl; write_faults = refl; out = refl }) refl (λ f h. no_image f h) x.0
    (subst (IsContentFailure (IsNoImage c.args.bytes.now) image) (sym x.2) c.in_err-image_read.ensures.err))

pub returns-in_err-tape_read : goal.returns-in_err-tape_read
returns-in_err-tape_read g c told held reads writes =
    let tape = c.args.tape.now in
    let i = c.in_ok-image_read.image_read in
    let all = RunAnswer c.args.image.now tape c.args.steps c.args.bytes.now c.args.text.now in
    let r = Run c.args.image.now tape c.args.steps in
    let w : World = record { told = told; held = held; read_faults = reads; write_faults = writes; out = sink g.O.Sink c.args.out.now } in
    let x = err_from_is_err_and c.from_residual-in_err-tape_read.result c.from_residual-in_err-tape_read.ensures.1 in
    subst (Does all r w w) (sym x.1)
    (content_failed all (IsNoTape i.windows c.args.text.now) r tape w w (record { held = refl; write_faults = refl; out = refl }) refl
    (λ f h. no_tape i f c.in_ok-image_read.ensures.ok h) x.0
    (subst (IsContentFailure (IsNoTape i.windows c.args.text.now) tape) (sym x.2) (rw c.as_slice.ensures at c.in_err-tape_read.ensures.err)))

pub start-requires-clause-queues : goal.start-requires-clause-queues
start-requires-clause-queues g c =
    ap length c.in_ok-tape_read.ensures.ok ∙ queue_count c.args.text.now c.as_slice.result.now ∙ ap length c.as_slice.ensures

pub print_run-requires-clause-begins : goal.print_run-requires-clause-begins
print_run-requires-clause-begins g c =
    ap (λ (m : MachineState). m.state.ending) c.in_ok-machine.ensures ∙ begins c.in_ok-image_read.image_read c.in_ok-tape_read.tape_read fill

pub returns-in-Ok : goal.returns-in-Ok
returns-in-Ok g c told held reads writes =
    let i = c.in_ok-image_read.image_read in
    let text = c.args.text.now in
    let steps = c.args.steps in
    let w : World = record { told = told; held = held; read_faults = reads; write_faults = writes; out = sink g.O.Sink c.args.out.now } in
    let state : c.in_ok-machine.machine.state ≡ start i (queues_of text i.windows) fill =
    ap (λ (m : MachineState). m.state) c.in_ok-machine.ensures
    ∙ ap (λ q. start i q fill) (c.in_ok-tape_read.ensures.ok ∙ ap (queues_of text) c.as_slice.ensures) in
    did_end (RunAnswer c.args.image.now c.args.tape.now steps c.args.bytes.now text) (Run c.args.image.now c.args.tape.now steps)
    w (record w { out = sink g.O.Sink c.print_run.new.out }) (run_outcome i text steps) c.done.result
    (ran i c.in_ok-image_read.ensures.ok (ap (first_fault text) (sym c.as_slice.ensures) ∙ c.in_ok-tape_read.ensures.faultless))
    (sym (c.done.ensures ∙ ap end_status (c.in-Ok.ensures.end ∙ ap (end_of i steps) state))) refl
    (record {
      printed = λ t. c.in-Ok.ensures.lines t ∙ ap (λ s. g.O.Sink.written c.args.out.now ++ run_lines i steps s) state;
      held = refl;
      read_faults = refl;
      write_faults = refl;
      faults = c.in-Ok.ensures.faultless;
    })

pub returns : goal.returns
returns g c told held reads writes =
    let i = c.in_ok-image_read.image_read in
    let text = c.args.text.now in
    let steps = c.args.steps in
    let state : c.in_ok-machine.machine.state ≡ start i (queues_of text i.windows) fill =
    ap (λ (m : MachineState). m.state) c.in_ok-machine.ensures
    ∙ ap (λ q. start i q fill) (c.in_ok-tape_read.ensures.ok ∙ ap (queues_of text) c.as_slice.ensures) in (
      record { rose = c.in-Err.ensures.cause; held = refl; read_faults = refl; write_faults = refl },
      record {
        outcome = run_outcome i text steps;
        answer = ran i c.in_ok-image_read.ensures.ok (ap (first_fault text) (sym c.as_slice.ensures) ∙ c.in_ok-tape_read.ensures.faultless);
        part = record { printed = λ t. rw state at (c.in-Err.ensures.part t); held = refl };
      },
    )

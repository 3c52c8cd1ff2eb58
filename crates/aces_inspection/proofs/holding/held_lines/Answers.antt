use Rattle.std.proofs.Common.{◌≡◌, ◌∙◌, length, ap, sym, subst}
use Rattle.std.proofs.lemmas.Result.{err_from_is_err_and}
use Rattle.base_words.specs.Runs.{run}
use Rattle.machine_devices.specs.Tape.{queues_of}
use Rattle.machine_model.specs.Step.{step}
use Rattle.machine_model.specs.Run.{start}
use Rattle.machine_emulator.specs.Machine.{MachineState}
use Rattle.machine_output.specs.Runs.{fill}
use Rattle.aces_files.specs.Contents.{IsNoImage, IsNoTape}
use Rattle.aces_files.specs.Loads.{IsContentFailure}
use Rattle.aces_files.proofs.Ends.{content_refused}
use Rattle.aces_files.proofs.Starting.{queue_count}
use Rattle.aces_inspection.specs.Answers.{StateAnswer, IsRunOut, no_image, no_tape, holds}
use Rattle.aces_inspection.proofs.holding.held_lines.Goals as goal

pub returns-in_err-read-clause-err : goal.returns-in_err-read-clause-err
returns-in_err-read-clause-err c =
    let image = c.args.image.now in
    let bytes = c.args.both.now.first.items in
    let all = StateAnswer image c.args.tape.now c.args.steps bytes c.args.both.now.second.items in
    let x = err_from_is_err_and c.from_residual.result c.from_residual.ensures.1 in
    rw x.1 (content_refused all (IsNoImage bytes) image (λ f h. no_image f h) x.0
    (subst (IsContentFailure (IsNoImage bytes) image) (sym x.2) (rw c.as_slice.ensures.value at c.in_err-read.ensures.err)))

pub returns-in_err-words-clause-err : goal.returns-in_err-words-clause-err
returns-in_err-words-clause-err c =
    let tape = c.args.tape.now in
    let i = c.in_ok-read.read in
    let text = c.args.both.now.second.items in
    let all = StateAnswer c.args.image.now tape c.args.steps c.args.both.now.first.items text in
    let is = rw c.as_slice.ensures.value at c.in_ok-read.ensures.ok in
    let x = err_from_is_err_and c.from_residual-in_err-words.result c.from_residual-in_err-words.ensures.1 in
    rw x.1 (content_refused all (IsNoTape i.windows text) tape (λ f h. no_tape i f is h) x.0
    (subst (IsContentFailure (IsNoTape i.windows text) tape) (sym x.2) (rw (c.as_slice-2.ensures.value, c.as_slice-3.ensures) at c.in_err-words.ensures.err)))

pub start-requires-clause-queues : goal.start-requires-clause-queues
start-requires-clause-queues c =
    ap length c.in_ok-words.ensures.ok ∙ queue_count c.as_slice-2.result.now c.as_slice-3.result.now ∙ ap length c.as_slice-3.ensures

pub returns-clause-ok : goal.returns-clause-ok
returns-clause-ok c =
    let i = c.in_ok-read.read in
    let text = c.args.both.now.second.items in
    let steps = c.args.steps in
    let made = c.steps_made-made.result in
    let old = c.in_ok-machine.machine in
    let is = rw c.as_slice.ensures.value at c.in_ok-read.ensures.ok in
    let faultless = rw (c.as_slice-2.ensures.value, c.as_slice-3.ensures) at c.in_ok-words.ensures.faultless in
    let queues = rw (c.as_slice-2.ensures.value, c.as_slice-3.ensures) at c.in_ok-words.ensures.ok in
    let first = start i (queues_of text i.windows) fill in
    let image : old.image ≡ i = ap (λ (m : MachineState). m.image) c.in_ok-machine.ensures in
    let state : old.state ≡ first = ap (λ (m : MachineState). m.state) c.in_ok-machine.ensures ∙ ap (λ q. start i q fill) queues in
    let run_out : IsRunOut i steps first made = subst (λ s. IsRunOut i steps s made) state (subst (λ j. IsRunOut j steps old.state made) image c.steps_made-made.ensures.run) in
    let last : c.steps_made-made.new.machine.state ≡ run (step i) made first =
    c.steps_made-made.ensures.state ∙ ap (λ j. run (step j) made old.state) image ∙ ap (run (step i) made) state in
    rw (c.in_ok-lines.ensures, last, c.steps_made-made.ensures.image, image) (holds i made is faultless run_out)

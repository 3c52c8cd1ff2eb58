use Rattle.std.proofs.Common.{◌≡◌, ◌∙◌, length, None, refl, ap, sym, subst}
use Rattle.std.proofs.lemmas.Result.{err_from_is_err_and}
use Rattle.machine_devices.specs.Tape.{queues_of}
use Rattle.machine_watch.specs.Sessions.{SessionState}
use Rattle.machine_model.specs.Run.{start}
use Rattle.aces_words.specs.Requests.{Watch}
use Rattle.base_outside.specs.Sinks.{sink}
use Rattle.machine_output.specs.Runs.{fill}
use Rattle.machine_output.specs.Watching.{IsWhole, IsPart, pause_status}
use Rattle.aces_files.specs.Contents.{IsNoImage, IsNoTape}
use Rattle.aces_files.specs.Effects.{Does, World}
use Rattle.aces_files.specs.Loads.{IsContentFailure}
use Rattle.aces_files.specs.Outcomes.{done}
use Rattle.aces_files.proofs.Ends.{content_failed, did_end}
use Rattle.aces_files.proofs.Starting.{queue_count, begins}
use Rattle.aces_inspection.specs.Answers.{WatchAnswer, no_image, no_tape, watched}
use Rattle.aces_inspection.proofs.watching.watch_texts.Goals as goal

pub returns-in_err-read : goal.returns-in_err-read
returns-in_err-read g c told held reads writes =
    let image = c.args.image.now in
    let both = c.args.both.now in
    let all = WatchAnswer image c.args.tape.now c.args.steps c.args.address.now both.first.items both.second.items in
    let r = Watch image c.args.tape.now c.args.steps c.args.address.now in
    let w : World = record { told = told; held = held; read_faults = reads; write_faults = writes; out = sink g.O.Sink c.args.out.now } in
    let x = err_from_is_err_and c.from_residual.result c.from_residual.ensures.1 in
    subst (Does all r w w) (sym x.1)
    (content_failed all (IsNoImage both.first.items) r image w w (record { held = refl; write_faults = refl; out = refl }) refl (λ f h. no_image f h) x.0
    (subst (IsContentFailure (IsNoImage both.first.items) image) (sym x.2) (rw c.as_slice.ensures.value at c.in_err-read.ensures.err)))

pub returns-in_err-words : goal.returns-in_err-words
returns-in_err-words g c told held reads writes =
    let tape = c.args.tape.now in
    let both = c.args.both.now in
    let i = c.in_ok-read.read in
    let text = both.second.items in
    let all = WatchAnswer c.args.image.now tape c.args.steps c.args.address.now both.first.items text in
    let r = Watch c.args.image.now tape c.args.steps c.args.address.now in
    let w : World = record { told = told; held = held; read_faults = reads; write_faults = writes; out = sink g.O.Sink c.args.out.now } in
    let x = err_from_is_err_and c.from_residual-in_err-words.result c.from_residual-in_err-words.ensures.1 in
    let is = rw c.as_slice.ensures.value at c.in_ok-read.ensures.ok in
    subst (Does all r w w) (sym x.1)
    (content_failed all (IsNoTape i.windows text) r tape w w (record { held = refl; write_faults = refl; out = refl }) refl (λ f h. no_tape i f is h) x.0
    (subst (IsContentFailure (IsNoTape i.windows text) tape) (sym x.2) (rw (c.as_slice-windows.ensures, c.as_slice-2.ensures.value) at c.in_err-words.ensures.err)))

pub start-requires-clause-queues : goal.start-requires-clause-queues
start-requires-clause-queues g c =
    ap length c.in_ok-words.ensures.ok ∙ queue_count c.as_slice-2.result.now c.as_slice-windows.result.now ∙ ap length c.as_slice-windows.ensures

pub print_watched-requires-clause-begins : goal.print_watched-requires-clause-begins
print_watched-requires-clause-begins g c =
    ap (λ (m : SessionState _). m.machine.state.ending) c.in_ok-session.ensures ∙ begins c.in_ok-read.read c.in_ok-words.words fill

pub returns-in-Ok : goal.returns-in-Ok
returns-in-Ok g c told held reads writes =
    let both = c.args.both.now in
    let i = c.in_ok-read.read in
    let text = both.second.items in
    let steps = c.args.steps in
    let a = c.address_read-address.result in
    let pause = c.in-Ok.pause in
    let w : World = record { told = told; held = held; read_faults = reads; write_faults = writes; out = sink g.O.Sink c.args.out.now } in
    let later = sink g.O.Sink c.print_watched.new.out in
    let is = rw c.as_slice.ensures.value at c.in_ok-read.ensures.ok in
    let faultless = rw (c.as_slice-windows.ensures, c.as_slice-2.ensures.value) at c.in_ok-words.ensures.faultless in
    let queues = rw (c.as_slice-windows.ensures, c.as_slice-2.ensures.value) at c.in_ok-words.ensures.ok in
    let state : c.in_ok-session.session.machine.state ≡ start i (queues_of text i.windows) fill =
    ap (λ (m : SessionState _). m.machine.state) c.in_ok-session.ensures ∙ ap (λ q. start i q fill) queues in
    let whole = subst (λ s. IsWhole i a steps s w.out later pause) state c.in-Ok.ensures.ok in
    did_end (WatchAnswer c.args.image.now c.args.tape.now steps c.args.address.now both.first.items text) (Watch c.args.image.now c.args.tape.now steps c.args.address.now)
    w (record w { out = later }) (done (pause_status pause) whole.printed None) c.done.result
    (watched i a (pause_status pause) whole.printed is faultless (sym c.address_read-address.ensures) whole.is)
    (sym c.done.ensures) refl
    (record { printed = whole.added; held = refl; read_faults = refl; write_faults = refl; faults = whole.faults })

pub returns : goal.returns
returns g c told held reads writes =
    let both = c.args.both.now in
    let i = c.in_ok-read.read in
    let text = both.second.items in
    let steps = c.args.steps in
    let a = c.address_read-address.result in
    let old = sink g.O.Sink c.args.out.now in
    let later = sink g.O.Sink c.print_watched.new.out in
    let is = rw c.as_slice.ensures.value at c.in_ok-read.ensures.ok in
    let faultless = rw (c.as_slice-windows.ensures, c.as_slice-2.ensures.value) at c.in_ok-words.ensures.faultless in
    let queues = rw (c.as_slice-windows.ensures, c.as_slice-2.ensures.value) at c.in_ok-words.ensures.ok in
    let state : c.in_ok-session.session.machine.state ≡ start i (queues_of text i.windows) fill =
    ap (λ (m : SessionState _). m.machine.state) c.in_ok-session.ensures ∙ ap (λ q. start i q fill) queues in
    let part = subst (λ s. IsPart i a steps s old later) state c.in-Err.ensures.err in (
      record { rose = part.rose; held = refl; read_faults = refl; write_faults = refl },
      record {
        outcome = done part.status part.printed None;
        answer = watched i a part.status part.printed is faultless (sym c.address_read-address.ensures) part.is;
        part = record { printed = part.part; held = refl };
      },
    )

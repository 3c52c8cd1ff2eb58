use Rattle.std.proofs.Common.{◌∙◌, ap, sym, subst}
use Rattle.std.proofs.lemmas.Result.{err_from_is_err_and}
use Rattle.machine_devices.specs.Tape.{queues_of, first_fault}
use Rattle.ir_model.specs.Plain.{firmware_of}
use Rattle.aces_files.specs.Contents.{IsNoTape}
use Rattle.aces_files.specs.Loads.{IsContentFailure}
use Rattle.aces_files.proofs.Ends.{content_refused}
use Rattle.aces_firmwares.proofs.Sourcing.{windows_made}
use Rattle.aces_where.specs.Answers.{WhereAnswer, no_tape, stands}
use Rattle.aces_where.specs.Runs.{AreLines}
use Rattle.aces_where.proofs.telling.where_checked.Goals as goal

pub returns-in_err-first-clause-err : goal.returns-in_err-first-clause-err
returns-in_err-first-clause-err c firmware bytes is =
    let tape = c.args.tape.now in
    let text = c.args.text.now in
    let v = c.args.checked.now in
    let windows = windows_made v c.firmware.result.now c.as_slice.result.now c.in_ok-windows.windows.items c.as_slice-2.result.now
    c.in_ok-windows.ensures c.as_slice.ensures c.firmware.ensures.same c.as_slice-2.ensures.value in
    let all = WhereAnswer firmware c.args.policy tape c.args.steps bytes text in
    let x = err_from_is_err_and c.from_residual-in_err-first.result c.from_residual-in_err-first.ensures.1 in
    rw x.1 (content_refused all (IsNoTape c.as_slice-2.result.now text) tape
    (λ f h. no_tape (firmware_of v) f is (subst (λ ws. IsNoTape ws text f) windows h)) x.0
    (subst (IsContentFailure (IsNoTape c.as_slice-2.result.now text) tape) (sym x.2) c.in_err-first.ensures.err))

pub returns-in_err-second-clause-err : goal.returns-in_err-second-clause-err
returns-in_err-second-clause-err c firmware bytes is =
    let tape = c.args.tape.now in
    let text = c.args.text.now in
    let v = c.args.checked.now in
    let windows = windows_made v c.firmware.result.now c.as_slice.result.now c.in_ok-windows.windows.items c.as_slice-3.result.now
    c.in_ok-windows.ensures c.as_slice.ensures c.firmware.ensures.same c.as_slice-3.ensures.value in
    let all = WhereAnswer firmware c.args.policy tape c.args.steps bytes text in
    let x = err_from_is_err_and c.from_residual-in_err-second.result c.from_residual-in_err-second.ensures.1 in
    rw x.1 (content_refused all (IsNoTape c.as_slice-3.result.now text) tape
    (λ f h. no_tape (firmware_of v) f is (subst (λ ws. IsNoTape ws text f) windows h)) x.0
    (subst (IsContentFailure (IsNoTape c.as_slice-3.result.now text) tape) (sym x.2) c.in_err-second.ensures.err))

pub returns-clause-ok : goal.returns-clause-ok
returns-clause-ok c firmware bytes is =
    let text = c.args.text.now in
    let v = c.args.checked.now in
    let w = firmware_of v in
    let windows = windows_made v c.firmware.result.now c.as_slice.result.now c.in_ok-windows.windows.items c.as_slice-2.result.now
    c.in_ok-windows.ensures c.as_slice.ensures c.firmware.ensures.same c.as_slice-2.ensures.value in
    let queues = c.in_ok-first.ensures.ok ∙ ap (queues_of text) windows in
    let by = c.in_ok-lines.ensures in
    stands w by.0 c.in_ok-lines.lines.items is
    (ap (first_fault text) (sym windows) ∙ c.in_ok-first.ensures.faultless)
    by.1
    (subst (λ q. AreLines w by.0 q c.args.steps c.in_ok-lines.lines.items) queues by.2)

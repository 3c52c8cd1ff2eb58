use Rattle.std.proofs.Common.{Ok, ap, sym, subst, ◌∙◌}
use Rattle.std.proofs.lemmas.Result.{err_from_is_err_and}
use Rattle.ir_model.specs.Plain.{firmware_of}
use Rattle.aces_reports.specs.Ends.{status_of}
use Rattle.aces_stack.specs.Lines.{stack_lines}
use Rattle.aces_plans.specs.Answers.{StackAnswers, no_firmware, no_board}
use Rattle.aces_files.specs.Contents.{IsNoBoard}
use Rattle.aces_firmwares.specs.Firmwares.{IsNoFirmware}
use Rattle.aces_files.specs.Loads.{IsContentFailure, IsPlanningFailure}
use Rattle.aces_files.proofs.Ends.{content_refused}
use Rattle.aces_plans.proofs.Planning.{limits_refused, answer_told}
use Rattle.aces_plans.proofs.stack.stack_by_bytes.Goals as goal

pub returns-in_err-checked-clause-err : goal.returns-in_err-checked-clause-err
returns-in_err-checked-clause-err c =
    let firmware = c.args.firmware.now in
    let bytes = c.args.bytes.now in
    let all = StackAnswers firmware c.args.board.now c.args.policy bytes c.args.text.now in
    let x = err_from_is_err_and c.from_residual.result c.from_residual.ensures.1 in
    rw x.1 (content_refused all (IsNoFirmware bytes) firmware (λ f h. no_firmware f h) x.0
    (subst (IsContentFailure (IsNoFirmware bytes) firmware) (sym x.2) c.in_err-checked.ensures.err))

pub returns-in_err-read-clause-err : goal.returns-in_err-read-clause-err
returns-in_err-read-clause-err c =
    let board = c.args.board.now in
    let text = c.args.text.now in
    let all = StackAnswers c.args.firmware.now board c.args.policy c.args.bytes.now text in
    let x = err_from_is_err_and c.from_residual-in_err-read.result c.from_residual-in_err-read.ensures.1 in
    rw x.1 (content_refused all (IsNoBoard text) board (λ f h. no_board (firmware_of c.in_ok-checked.checked) f c.in_ok-checked.ensures.ok h) x.0
    (subst (IsContentFailure (IsNoBoard text) board) (sym x.2) c.in_err-read.ensures.err))

pub returns-in-Ok-clause-ok : goal.returns-in-Ok-clause-ok
returns-in-Ok-clause-ok c =
    let w = firmware_of c.in_ok-checked.checked in
    let b = c.in_ok-read.read in
    answer_told c.args.firmware.now c.args.board.now c.args.policy c.args.bytes.now c.args.text.now w b c.in-Ok.answer (status_of (Ok c.done_by-done.result)) c.in_ok-lines-in-Ok.lines.items
    c.in_ok-checked.ensures.ok c.in_ok-read.ensures.ok c.in-Ok.ensures.ok c.done_by-done.ensures
    (c.in_ok-lines-in-Ok.ensures ∙ ap (λ f. stack_lines (firmware_of f) b.stack c.in-Ok.answer) c.firmware.ensures.same)

pub returns-clause-err : goal.returns-clause-err
returns-clause-err c =
    limits_refused c.args.firmware.now c.args.board.now c.args.policy c.args.bytes.now c.args.text.now (firmware_of c.in_ok-checked.checked) c.in_ok-read.read
    c.in_ok-checked.ensures.ok c.in_ok-read.ensures.ok c.in-Err.refusal c.planning_failure.result c.in-Err.ensures.refused (subst (λ f. IsPlanningFailure (firmware_of f) c.in_ok-read.read c.in-Err.refusal c.planning_failure.result) c.firmware-in-Err.ensures.same c.planning_failure.ensures)

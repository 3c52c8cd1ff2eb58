use Rattle.std.proofs.Common.{sym, subst}
use Rattle.std.proofs.lemmas.Result.{err_from_is_err_and}
use Rattle.ir_model.specs.Plain.{firmware_of}
use Rattle.aces_firmwares.specs.PlanAnswer.{PlanAnswer, no_firmware, no_board}
use Rattle.aces_cli.specs.Answer.{CompileAnswer, compiled, unplanned}
use Rattle.aces_files.specs.Contents.{IsNoBoard}
use Rattle.aces_firmwares.specs.Firmwares.{IsNoFirmware}
use Rattle.aces_files.specs.Loads.{IsContentFailure, IsPlanningFailure}
use Rattle.aces_files.proofs.Ends.{content_refused, refusal_also}
use Rattle.aces_firmwares.proofs.Unplanned.{planning_refused}
use Rattle.aces_cli.proofs.compile.image_by_bytes.Goals as goal

pub returns-in_err-checked-clause-err : goal.returns-in_err-checked-clause-err
returns-in_err-checked-clause-err c =
    let firmware = c.args.firmware.now in
    let bytes = c.args.bytes.now in
    let x = err_from_is_err_and c.from_residual.result c.from_residual.ensures.1 in
    rw x.1 (λ image. content_refused (CompileAnswer firmware c.args.board.now c.args.policy image bytes c.args.text.now) (IsNoFirmware bytes) firmware (λ f h. unplanned _ (no_firmware f h)) x.0
    (subst (IsContentFailure (IsNoFirmware bytes) firmware) (sym x.2) c.in_err-checked.ensures.err))

pub returns-in_err-read-clause-err : goal.returns-in_err-read-clause-err
returns-in_err-read-clause-err c =
    let board = c.args.board.now in
    let text = c.args.text.now in
    let x = err_from_is_err_and c.from_residual-in_err-read.result c.from_residual-in_err-read.ensures.1 in
    rw x.1 (λ image. content_refused (CompileAnswer c.args.firmware.now board c.args.policy image c.args.bytes.now text) (IsNoBoard text) board
    (λ f h. unplanned _ (no_board (firmware_of c.in_ok-checked.checked) f c.in_ok-checked.ensures.ok h)) x.0
    (subst (IsContentFailure (IsNoBoard text) board) (sym x.2) c.in_err-read.ensures.err))

pub returns-in-Ok-clause-ok : goal.returns-in-Ok-clause-ok
returns-in-Ok-clause-ok c image =
    compiled (firmware_of c.in_ok-checked.checked) c.in_ok-read.read c.in-Ok.out.items c.in_ok-checked.ensures.ok c.in_ok-read.ensures.ok c.in-Ok.ensures.ok

pub returns-clause-err : goal.returns-clause-err
returns-clause-err c image =
    let firmware = c.args.firmware.now in
    let board = c.args.board.now in
    let policy = c.args.policy in
    let bytes = c.args.bytes.now in
    let text = c.args.text.now in
    refusal_also (PlanAnswer firmware board policy bytes text) (CompileAnswer firmware board policy image bytes text) unplanned c.planning_failure.result
    (planning_refused firmware board policy bytes text (firmware_of c.in_ok-checked.checked) c.in_ok-read.read
    c.in_ok-checked.ensures.ok c.in_ok-read.ensures.ok c.in-Err.refusal c.planning_failure.result c.in-Err.ensures.refused (subst (λ f. IsPlanningFailure (firmware_of f) c.in_ok-read.read c.in-Err.refusal c.planning_failure.result) c.firmware.ensures.same c.planning_failure.ensures))

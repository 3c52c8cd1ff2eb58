use Rattle.std.proofs.Common.{sym, subst}
use Rattle.std.proofs.lemmas.Result.{err_from_is_err_and}
use Rattle.aces_files.specs.Loads.{IsContentFailure}
use Rattle.aces_files.proofs.Ends.{content_refused}
use Rattle.aces_firmwares.specs.Firmwares.{IsNoFirmware}
use Rattle.aces_where.specs.Answers.{WhereAnswer, no_firmware}
use Rattle.aces_where.proofs.telling.where_by_bytes.Goals as goal

pub returns-in_err-checked-clause-err : goal.returns-in_err-checked-clause-err
returns-in_err-checked-clause-err c =
    let firmware = c.args.firmware.now in
    let bytes = c.args.bytes.now in
    let all = WhereAnswer firmware c.args.policy c.args.tape.now c.args.steps bytes c.args.text.now in
    let x = err_from_is_err_and c.from_residual.result c.from_residual.ensures.1 in
    rw x.1 (content_refused all (IsNoFirmware bytes) firmware (λ f h. no_firmware f h) x.0
    (subst (IsContentFailure (IsNoFirmware bytes) firmware) (sym x.2) c.in_err-checked.ensures.err))

pub returns-clause-ok : goal.returns-clause-ok
returns-clause-ok c = c.where_checked.ensures.ok c.args.firmware.now c.args.bytes.now c.in_ok-checked.ensures.ok

pub returns-clause-err : goal.returns-clause-err
returns-clause-err c = c.where_checked.ensures.err c.args.firmware.now c.args.bytes.now c.in_ok-checked.ensures.ok

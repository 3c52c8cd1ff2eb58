use Rattle.ir_model.specs.Plain.{firmware_of}
use Rattle.aces_firmwares.proofs.Firmwares.{text_refused, check_refused}
use Rattle.aces_firmwares.proofs.reading.firmware_of.Goals as goal

pub returns-in-Err-clause-err : goal.returns-in-Err-clause-err
returns-in-Err-clause-err c =
    text_refused c.args.bytes.now c.args.name.now c.in-Err.fault c.content_failure.result c.in-Err.ensures.first c.content_failure.ensures

pub returns-clause-err : goal.returns-clause-err
returns-clause-err c =
    check_refused (firmware_of c.in-Ok.firmware) c.args.bytes.now c.args.name.now c.in-Err-check.fault c.content_failure-in-Err-check.result
    c.in-Ok.ensures.found c.in-Err-check.ensures.fault c.content_failure-in-Err-check.ensures

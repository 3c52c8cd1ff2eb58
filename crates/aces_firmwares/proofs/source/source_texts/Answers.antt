use Rattle.std.proofs.Common.{refl, sym, subst}
use Rattle.std.proofs.lemmas.Result.{err_from_is_err_and}
use Rattle.aces_words.specs.Requests.{Source}
use Rattle.aces_firmwares.specs.Answers.{SourceAnswer, no_firmware}
use Rattle.aces_firmwares.specs.Firmwares.{IsNoFirmware}
use Rattle.base_outside.specs.Sinks.{sink}
use Rattle.aces_files.specs.Effects.{Does, World}
use Rattle.aces_files.specs.Loads.{IsContentFailure}
use Rattle.aces_files.proofs.Ends.{content_failed}
use Rattle.aces_firmwares.proofs.source.source_texts.Goals as goal

pub returns-in_err-checked : goal.returns-in_err-checked
returns-in_err-checked g c told held reads writes =
    let firmware = c.args.firmware.now in
    let all = SourceAnswer firmware c.args.policy c.args.tape.now c.args.steps c.args.bytes.now c.args.text.now in
    let r = Source firmware c.args.policy c.args.tape.now c.args.steps in
    let w : World = record { told = told; held = held; read_faults = reads; write_faults = writes; out = sink g.O.Sink c.args.out.now } in
    let x = err_from_is_err_and c.from_residual.result c.from_residual.ensures.1 in
    subst (Does all r w w) (sym x.1)
    (content_failed all (IsNoFirmware c.args.bytes.now) r firmware w w (record { held = refl; write_faults = refl; out = refl }) refl (λ f h. no_firmware f h) x.0
    (subst (IsContentFailure (IsNoFirmware c.args.bytes.now) firmware) (sym x.2) c.in_err-checked.ensures.err))

pub returns : goal.returns
returns g c told held reads writes = c.source_checked.ensures c.args.firmware.now c.args.bytes.now c.in_ok-checked.ensures.ok told held reads writes

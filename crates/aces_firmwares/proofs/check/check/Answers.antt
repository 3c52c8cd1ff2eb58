use Rattle.std.proofs.Common.{◌∙◌, refl, sym, subst}
use Rattle.std.proofs.lemmas.Result.{err_from_is_err_and}
use Rattle.aces_reports.specs.declared.failure.Done.TheVariants.{Completed}
use Rattle.base_outside.specs.Sinks.{sink}
use Rattle.aces_words.specs.Requests.{Check, firmware_origin}
use Rattle.ir_model.specs.Plain.{firmware_of}
use Rattle.aces_files.specs.Loads.{IsContentFailure, IsNotRead}
use Rattle.aces_files.specs.Tellings.{Prints}
use Rattle.aces_files.proofs.Ends.{content_refused}
use Rattle.aces_files.proofs.OneFile.{not_read, refused, printed}
use Rattle.aces_firmwares.specs.Answers.{CheckAnswer, no_firmware, checked}
use Rattle.aces_firmwares.specs.Counts.{count_line}
use Rattle.aces_firmwares.specs.Firmwares.{IsNoFirmware}
use Rattle.aces_firmwares.proofs.check.check.Goals as goal

pub returns-in_err-bytes : goal.returns-in_err-bytes
returns-in_err-bytes g c =
    let firmware = c.args.firmware.now in
    let s = firmware_origin firmware in
    let x = err_from_is_err_and c.from_residual.result c.from_residual.ensures.1 in
    rw x.1 (not_read g.F.Files c.args.files.now c.load_firmware.new.files s (Check firmware) refl (CheckAnswer firmware) (sink g.O.Sink c.args.out.now) x.0
    (subst (IsNotRead g.F.Files c.args.files.now c.load_firmware.new.files s) (sym x.2) c.in_err-bytes.ensures.unread))

pub returns-in_err-checked : goal.returns-in_err-checked
returns-in_err-checked g c =
    let firmware = c.args.firmware.now in
    let s = firmware_origin firmware in
    let bytes = c.in_ok-bytes.bytes.items in
    let x = err_from_is_err_and c.from_residual-in_err-checked.result c.from_residual-in_err-checked.ensures.1 in
    rw x.1 (refused g.F.Files c.args.files.now c.load_firmware.new.files s (Check firmware) refl (CheckAnswer firmware) bytes c.in_ok-bytes.ensures.read (sink g.O.Sink c.args.out.now) x.0
    (content_refused (CheckAnswer firmware bytes) (IsNoFirmware bytes) firmware (λ f h. no_firmware f h) x.0
    (subst (IsContentFailure (IsNoFirmware bytes) firmware) (sym x.2) (rw c.as_slice.ensures.value at c.in_err-checked.ensures.err))))

pub returns : goal.returns
returns g c =
    let firmware = c.args.firmware.now in
    let s = firmware_origin firmware in
    let w = firmware_of c.in_ok-checked.checked in
    let old = sink g.O.Sink c.args.out.now in
    let new = sink g.O.Sink c.print.new.out in
    printed g.F.Files c.args.files.now c.load_firmware.new.files s (Check firmware) refl (CheckAnswer firmware) c.in_ok-bytes.bytes.items c.in_ok-bytes.ensures.read
    old new (count_line w) Completed (checked w (rw c.as_slice.ensures.value at c.in_ok-checked.ensures.ok)) c.print.result
    (subst (λ lines. Prints old new lines Completed c.print.result) (c.as_slice-2.ensures ∙ c.counts_of-line.ensures) c.print.ensures)

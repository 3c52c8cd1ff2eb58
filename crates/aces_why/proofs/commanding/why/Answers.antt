use Rattle.std.proofs.Common.{refl, sym, subst}
use Rattle.std.proofs.lemmas.Result.{err_from_is_err_and}
use Rattle.aces_reports.specs.declared.failure.Done.TheVariants.{Completed}
use Rattle.base_outside.specs.Sinks.{sink}
use Rattle.aces_words.specs.Requests.{Why, firmware_origin}
use Rattle.aces_files.specs.Loads.{IsContentFailure, IsNotRead}
use Rattle.aces_files.proofs.Ends.{content_refused}
use Rattle.aces_files.proofs.OneFile.{not_read, refused, printed}
use Rattle.aces_firmwares.specs.Firmwares.{IsNoFirmware}
use Rattle.aces_why.specs.Answers.{WhyAnswer, no_firmware}
use Rattle.aces_why.proofs.commanding.why.Goals as goal

pub returns-in_err-bytes : goal.returns-in_err-bytes
returns-in_err-bytes g c =
    let firmware = c.args.firmware.now in
    let s = firmware_origin firmware in
    let x = err_from_is_err_and c.from_residual.result c.from_residual.ensures.1 in
    rw x.1 (not_read g.F.Files c.args.files.now c.load_firmware.new.files s (Why firmware) refl (WhyAnswer firmware) (sink g.O.Sink c.args.out.now) x.0
    (subst (IsNotRead g.F.Files c.args.files.now c.load_firmware.new.files s) (sym x.2) c.in_err-bytes.ensures.unread))

pub returns-in_err-lines : goal.returns-in_err-lines
returns-in_err-lines g c =
    let firmware = c.args.firmware.now in
    let s = firmware_origin firmware in
    let bytes = c.in_ok-bytes.bytes.items in
    let x = err_from_is_err_and c.from_residual-in_err-lines.result c.from_residual-in_err-lines.ensures.1 in
    rw x.1 (refused g.F.Files c.args.files.now c.load_firmware.new.files s (Why firmware) refl (WhyAnswer firmware) bytes c.in_ok-bytes.ensures.read (sink g.O.Sink c.args.out.now) x.0
    (content_refused (WhyAnswer firmware bytes) (IsNoFirmware bytes) firmware (λ f h. no_firmware f h) x.0
    (subst (IsContentFailure (IsNoFirmware bytes) firmware) (sym x.2) (rw c.as_slice.ensures.value at c.in_err-lines.ensures.err))))

pub returns : goal.returns
returns g c =
    let firmware = c.args.firmware.now in
    let s = firmware_origin firmware in
    printed g.F.Files c.args.files.now c.load_firmware.new.files s (Why firmware) refl (WhyAnswer firmware) c.in_ok-bytes.bytes.items c.in_ok-bytes.ensures.read
    (sink g.O.Sink c.args.out.now) (sink g.O.Sink c.print.new.out) c.in_ok-lines.lines.items Completed
    (rw c.as_slice.ensures.value at c.in_ok-lines.ensures.ok) c.print.result (rw c.as_slice-2.ensures.value at c.print.ensures)

use Rattle.std.proofs.Common.{refl, sym, subst}
use Rattle.std.proofs.lemmas.Result.{err_from_is_err_and}
use Rattle.base_outside.specs.Sinks.{sink}
use Rattle.aces_words.specs.Requests.{Stack, file_origin, firmware_origin}
use Rattle.aces_files.specs.Loads.{IsRefusal, AreNotRead}
use Rattle.aces_plans.specs.Answers.{StackAnswers}
use Rattle.aces_files.proofs.TwoFiles.{not_read, refused, printed}
use Rattle.aces_plans.proofs.stack.stack.Goals as goal

pub returns-in_err-both : goal.returns-in_err-both
returns-in_err-both g c =
    let firmware = c.args.firmware.now in
    let board = c.args.board.now in
    let policy = c.args.policy in
    let x = err_from_is_err_and c.from_residual.result c.from_residual.ensures.1 in
    rw x.1 (not_read g.F.Files c.args.files.now c.load_firmware_and.new.files (firmware_origin firmware) (file_origin board) (Stack firmware board policy) refl (StackAnswers firmware board policy) (sink g.O.Sink c.args.out.now) x.0
    (subst (AreNotRead g.F.Files c.args.files.now c.load_firmware_and.new.files (firmware_origin firmware) (file_origin board)) (sym x.2) c.in_err-both.ensures.unread))

pub returns-in_err-told : goal.returns-in_err-told
returns-in_err-told g c =
    let firmware = c.args.firmware.now in
    let board = c.args.board.now in
    let policy = c.args.policy in
    let bytes = c.in_ok-both.both.first.items in
    let text = c.in_ok-both.both.second.items in
    let x = err_from_is_err_and c.from_residual-in_err-told.result c.from_residual-in_err-told.ensures.1 in
    rw x.1 (refused g.F.Files c.args.files.now c.load_firmware_and.new.files (firmware_origin firmware) (file_origin board) (Stack firmware board policy) refl (StackAnswers firmware board policy) bytes text c.in_ok-both.ensures.read
    (sink g.O.Sink c.args.out.now) x.0
    (subst (IsRefusal (StackAnswers firmware board policy bytes text)) (sym x.2) (rw (c.as_slice.ensures.value, c.as_slice-2.ensures.value) at c.in_err-told.ensures.err)))

pub returns : goal.returns
returns g c =
    let firmware = c.args.firmware.now in
    let board = c.args.board.now in
    let policy = c.args.policy in
    let bytes = c.in_ok-both.both.first.items in
    let text = c.in_ok-both.both.second.items in
    printed g.F.Files c.args.files.now c.load_firmware_and.new.files (firmware_origin firmware) (file_origin board) (Stack firmware board policy) refl (StackAnswers firmware board policy) bytes text c.in_ok-both.ensures.read
    (sink g.O.Sink c.args.out.now) (sink g.O.Sink c.print.new.out) c.in_ok-told.told.lines.items c.in_ok-told.told.done
    (rw (c.as_slice.ensures.value, c.as_slice-2.ensures.value) at c.in_ok-told.ensures.ok) c.print.result
    (rw c.as_slice-3.ensures.value at c.print.ensures)

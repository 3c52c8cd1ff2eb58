use Rattle.std.proofs.Common.{refl, sym, subst}
use Rattle.std.proofs.lemmas.Result.{err_from_is_err_and}
use Rattle.base_outside.specs.Sinks.{sink}
use Rattle.aces_words.specs.Requests.{Watch, file_origin}
use Rattle.aces_files.specs.Loads.{AreNotRead}
use Rattle.aces_files.proofs.TwoFiles.{not_read, did}
use Rattle.aces_inspection.specs.Answers.{WatchAnswer}
use Rattle.aces_inspection.proofs.watching.watch.Goals as goal

pub returns-in_err-both : goal.returns-in_err-both
returns-in_err-both g c =
    let image = c.args.image.now in
    let tape = c.args.tape.now in
    let steps = c.args.steps in
    let s = file_origin image in
    let t = file_origin tape in
    let address = c.args.address.now in
    let x = err_from_is_err_and c.from_residual.result c.from_residual.ensures.1 in
    rw x.1 (not_read g.F.Files c.args.files.now c.load_both.new.files s t (Watch image tape steps address) refl (WatchAnswer image tape steps address) (sink g.O.Sink c.args.out.now) x.0
    (subst (AreNotRead g.F.Files c.args.files.now c.load_both.new.files s t) (sym x.2) c.in_err-both.ensures.unread))

pub returns : goal.returns
returns g c =
    let image = c.args.image.now in
    let tape = c.args.tape.now in
    let steps = c.args.steps in
    let s = file_origin image in
    let t = file_origin tape in
    let address = c.args.address.now in
    let both = c.in_ok-both.both in
    did g.F.Files c.args.files.now c.load_both.new.files s t (Watch image tape steps address) refl (WatchAnswer image tape steps address)
    both.first.items both.second.items c.in_ok-both.ensures.read (sink g.O.Sink c.args.out.now) (sink g.O.Sink c.watch_texts.new.out) c.watch_texts.result
    c.watch_texts.ensures

use Rattle.std.proofs.Common.{sym, subst}
use Rattle.std.proofs.lemmas.Result.{err_from_is_err_and}
use Rattle.base_outside.specs.Sinks.{sink}
use Rattle.aces_words.specs.Requests.{Selftest}
use Rattle.aces_files.specs.Loads.{IsRefusal}
use Rattle.aces_files.proofs.Printing.{printed, unprinted, refused}
use Rattle.aces_selftest.specs.Answers.{SelftestAnswer, AnswerToSelftest}
use Rattle.aces_selftest.proofs.printing.print_selftest.Goals as goal

pub returns-in_err-told : goal.returns-in_err-told
returns-in_err-told g c =
    let seed = c.args.seed in
    let size = c.args.size in
    let x = err_from_is_err_and c.from_residual.result c.from_residual.ensures.1 in
    rw x.1 (refused g.F.Files c.args.files.now (Selftest seed size) (AnswerToSelftest seed size) (sink g.O.Sink c.args.out.now) x.0
    (subst (IsRefusal (SelftestAnswer seed size)) (sym x.2) c.in_err-told.ensures.err))

pub returns-in-Ok : goal.returns-in-Ok
returns-in-Ok g c =
    let seed = c.args.seed in
    let size = c.args.size in
    let told = c.in_ok-told.told in
    printed g.F.Files c.args.files.now (Selftest seed size) (AnswerToSelftest seed size) (sink g.O.Sink c.args.out.now) (sink g.O.Sink c.put.new.self)
    told.lines.items told.done c.in_ok-told.ensures.ok
    (c.in-Ok.ensures.counts.only_failed, λ t. rw c.as_slice.ensures.value at (c.in-Ok.ensures.bytes t))

pub returns : goal.returns
returns g c =
    let seed = c.args.seed in
    let size = c.args.size in
    let told = c.in_ok-told.told in
    unprinted g.F.Files c.args.files.now (Selftest seed size) (AnswerToSelftest seed size) (sink g.O.Sink c.args.out.now) (sink g.O.Sink c.put.new.self)
    told.lines.items told.done c.in_ok-told.ensures.ok
    (c.in-Err.ensures.cause, λ t. rw c.as_slice.ensures.value at c.in-Err.ensures.failed)

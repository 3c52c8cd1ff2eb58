use Rattle.std.proofs.Common.{sym, subst}
use Rattle.std.proofs.lemmas.Result.{err_from_is_err_and}
use Rattle.aces_words.specs.Requests.{Origin}
use Rattle.aces_files.specs.Loads.{IsNotRead}
use Rattle.aces_files.proofs.Reading.{first_not_read, second_not_read, are_read}
use Rattle.aces_files.proofs.loading.load_two.Goals as goal

pub returns-in_err-front-clause-unread : goal.returns-in_err-front-clause-unread
returns-in_err-front-clause-unread g c =
    let s : Origin = record { name = c.args.first.now; limit = c.args.first_limit } in
    let t : Origin = record { name = c.args.second.now; limit = c.args.second_limit } in
    let x = err_from_is_err_and c.from_residual.result c.from_residual.ensures.1 in
    rw x.1 (first_not_read g.F.Files s t c.args.files.now c.load_within.new.files x.0
    (subst (IsNotRead g.F.Files c.args.files.now c.load_within.new.files s) (sym x.2) c.in_err-front.ensures.unread))

pub returns-in_err-behind-clause-unread : goal.returns-in_err-behind-clause-unread
returns-in_err-behind-clause-unread g c =
    let s : Origin = record { name = c.args.first.now; limit = c.args.first_limit } in
    let t : Origin = record { name = c.args.second.now; limit = c.args.second_limit } in
    let mid = c.load_within.new.files in
    let new = c.load_within-2.new.files in
    let x = err_from_is_err_and c.from_residual-in_err-behind.result c.from_residual-in_err-behind.ensures.1 in
    rw x.1 (second_not_read g.F.Files s t c.args.files.now mid new c.in_ok-front.front.items x.0 c.in_ok-front.ensures.read
    (subst (IsNotRead g.F.Files mid new t) (sym x.2) c.in_err-behind.ensures.unread))

pub returns-clause-read : goal.returns-clause-read
returns-clause-read g c =
    let s : Origin = record { name = c.args.first.now; limit = c.args.first_limit } in
    let t : Origin = record { name = c.args.second.now; limit = c.args.second_limit } in
    are_read g.F.Files s t c.args.files.now c.load_within.new.files c.load_within-2.new.files
    c.in_ok-front.front.items c.in_ok-behind.behind.items c.in_ok-front.ensures.read c.in_ok-behind.ensures.read

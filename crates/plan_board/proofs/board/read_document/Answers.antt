use Rattle.std.proofs.lemmas.Result.{err_from_is_err_and}
use Rattle.toml.specs.View.{table_view}
use Rattle.plan_board.proofs.Refusals.{extra_refused, read_is}
use Rattle.plan_board.proofs.board.read_document.Goals as goal

pub returns-clause-read : goal.returns-clause-read
returns-clause-read c = read_is (table_view c.args.document.now) c.in_ok-board.board c.in_ok-board.ensures.ok c.in_ok-refuse_further.ensures.none

pub returns-in_err-refuse_further-clause-refused : goal.returns-in_err-refuse_further-clause-refused
returns-in_err-refuse_further-clause-refused c =
    let p = err_from_is_err_and c.from_residual-in_err-refuse_further.result c.from_residual-in_err-refuse_further.ensures.1 in
    rw (p.1, p.2) (extra_refused (table_view c.args.document.now) c.in_ok-board.board c.in_err-refuse_further.field-0.0 c.in_ok-board.ensures.ok c.in_err-refuse_further.ensures.refused)

use Rattle.std.proofs.lemmas.Result.{err_from_is_err_and}
use Rattle.toml.specs.View.{table_view}
use Rattle.plan_board.proofs.Refusals.{key_refused, denied_refused, fields_are}
use Rattle.plan_board.proofs.board.fields_of.Goals as goal

pub returns-in_err-board-clause-refused : goal.returns-in_err-board-clause-refused
returns-in_err-board-clause-refused c =
    let p = err_from_is_err_and c.from_residual.result c.from_residual.ensures.1 in
    rw (p.1, p.2) (key_refused (table_view c.args.document.now) c.in_err-board.field-0.0 c.in_err-board.ensures)

pub returns-in_err-denied-clause-refused : goal.returns-in_err-denied-clause-refused
returns-in_err-denied-clause-refused c =
    let p = err_from_is_err_and c.from_residual-in_err-denied.result c.from_residual-in_err-denied.ensures.1 in
    rw (p.1, p.2) (denied_refused (table_view c.args.document.now) c.in_ok-board.board c.in_err-denied.field-0.0 c.in_ok-board.ensures c.in_err-denied.ensures.refused)

pub returns-clause-ok : goal.returns-clause-ok
returns-clause-ok c = fields_are (table_view c.args.document.now) c.in_ok-board.board c.in_ok-denied.denied c.in_ok-board.ensures c.in_ok-denied.ensures.ok

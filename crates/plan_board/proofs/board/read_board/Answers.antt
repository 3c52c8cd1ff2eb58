use Rattle.std.proofs.lemmas.Result.{IfOk-weaker, IfErr-weaker}
use Rattle.toml.specs.View.{table_view}
use Rattle.plan_model.specs.Boards.{IsBoard}
use Rattle.plan_board.specs.Reading.{IsReadIn, IsFaultIn, IsFault}
use Rattle.plan_board.proofs.Refusals.{text_refused}
use Rattle.plan_board.proofs.Rules.{read_obeys}
use Rattle.plan_board.proofs.board.read_board.Goals as goal

pub returns-in-Ok-clause-board : goal.returns-in-Ok-clause-board
returns-in-Ok-clause-board c =
    let ms = table_view c.in-Ok.document in
    IfOk-weaker c.read_document.result (IsReadIn ms) IsBoard (read_obeys ms) c.read_document.ensures.read

pub returns-in-Ok-clause-refused : goal.returns-in-Ok-clause-refused
returns-in-Ok-clause-refused c =
    let ms = table_view c.in-Ok.document in
    IfErr-weaker c.read_document.result (IsFaultIn ms) (IsFault c.args.text.now) (λ f r. text_refused c.args.text.now ms f c.in-Ok.ensures.ok r) c.read_document.ensures.refused

use Rattle.aces_files.proofs.Boards.{board_refused}
use Rattle.aces_files.proofs.loading.board_of.Goals as goal

pub returns-in-Err-clause-err : goal.returns-in-Err-clause-err
returns-in-Err-clause-err c =
    board_refused c.args.text.now c.args.name.now c.in-Err.fault c.content_failure.result c.in-Err.ensures.refused c.content_failure.ensures

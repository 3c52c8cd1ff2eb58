use Rattle.plan_board.proofs.OneAnswer.{boards_are_one, boards_are_not_refused}
use Rattle.plan_board.proofs.laws.boards_are_one.Goals as goal

pub returns-clause-one : goal.returns-clause-one
returns-clause-one c = boards_are_one

pub returns-clause-read : goal.returns-clause-read
returns-clause-read c = boards_are_not_refused

use Rattle.aces_cli.proofs.Followed.{bounded_calls_are_followed}
use Rattle.aces_cli.proofs.complete.bounded_calls.Goals as goal

pub returns : goal.returns
returns c = bounded_calls_are_followed c.texts.ensures.unique c.boards_are_one.ensures.one

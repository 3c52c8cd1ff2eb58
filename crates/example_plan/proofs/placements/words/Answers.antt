use Rattle.example_plan.proofs.Placing.{computes_words}
use Rattle.example_plan.proofs.placements.words.Goals as goal

pub returns : goal.returns
returns c = computes_words

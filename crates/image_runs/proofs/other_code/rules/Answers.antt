use Rattle.image_runs.proofs.CodeStays.{rules_stay}
use Rattle.image_runs.proofs.other_code.rules.Goals as goal

pub returns : goal.returns
returns c = rules_stay

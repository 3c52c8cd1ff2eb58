use Rattle.aces_stack.proofs.Excluding as excluding
use Rattle.aces_stack.proofs.laws.limits_exclude.Goals as goal

pub returns : goal.returns
returns c = excluding.limits_exclude c.needs_are_one.ensures

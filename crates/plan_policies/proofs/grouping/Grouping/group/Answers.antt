use Rattle.std.proofs.Common.{rules}
use Rattle.plan_policies.proofs.grouping.Grouping.group.Goals as goal

pub returns-clause-below : goal.returns-clause-below
returns-clause-below g c = c.requires.grouping.below c.args.facts.now c.callback.result c.requires.index (search (rules, c.callback.ensures))

use Rattle.std.proofs.Common.{◌≡◌, map}
use Rattle.plan_model.specs.Facts.{facts_of}
use Rattle.plan_model.specs.Lists.{numbers_below}
use Rattle.plan_policies.specs.declared.origins.Origin.{Origin}
use Rattle.plan_policies.proofs.facts.facts.Given as goal

abbrev pub invariant-loop-index : goal.invariant-loop-index
invariant-loop-index l = l.facts.items ≡ map (facts_of (map (λ (o : Origin). o.name.now) l.origins.items) (map (λ (o : Origin). o.file) l.origins.items) l.needs) (numbers_below l.index)

use Rattle.std.proofs.Common.{◌<◌, sym, subst, ap, ◌∙◌}
use Rattle.std.specs.List.{All}
use Rattle.std.proofs.lemmas.List.{take_all}
use Rattle.plan_model.specs.Policies.{filename_groups}
use Rattle.plan_policies.proofs.Below.{filename_below}
use Rattle.plan_policies.proofs.policies.filename_groups.Goals as goal

exactly : goal.returns-clause-exact
exactly c = c.loop-i.invariant ∙ ap filename_groups (take_all c.loop-i.i c.args.facts.now c.loop-i-test.false)

pub returns-clause-exact : goal.returns-clause-exact
returns-clause-exact c = exactly c

pub returns-clause-below : goal.returns-clause-below
returns-clause-below c = λ files h. subst (λ gs. All (λ g. g < files) gs) (sym (exactly c)) (filename_below files c.args.facts.now h)

use Rattle.std.proofs.Common.{rules, ◌≡◌, ◌<◌, ◌∙◌, length, sym, subst, ap, map}
use Rattle.std.specs.List.{All, position_or_len}
use Rattle.std.proofs.lemmas.List.{take_all}
use Rattle.plan_model.specs.declared.groups.FuncFacts.{FuncFacts}
use Rattle.plan_model.specs.Lists.{same_numbers}
use Rattle.plan_model.specs.Policies.{periph_lists, peripheral_groups}
use Rattle.plan_policies.proofs.Below.{peripheral_below}
use Rattle.plan_policies.proofs.Periphs.{group_more}
use Rattle.plan_policies.proofs.policies.peripheral_groups.Goals as goal

pub loop-i-preserved : goal.loop-i-preserved
loop-i-preserved c =
    let same : c.in-Ok.group ≡ c.place_of.result = search rules in
    group_more c.args.facts.now c.loop-i.i c.index-facts-i.result c.in_ok-lists.lists.items c.deref.result.now c.as_slice.result.now c.loop-i.groups.items _ c.place_of.result c.in-Ok.group c.loop-i-test.true c.as_slice.ensures c.deref.ensures.value c.in_ok-lists.ensures c.place_of.ensures same c.loop-i.invariant c.in_ok-push.ensures.items

exactly : goal.returns-clause-exact
unfolding peripheral_groups
exactly c = c.loop-i.invariant ∙ ap (map (λ (f : FuncFacts). position_or_len (λ qs. same_numbers qs f.periphs) (periph_lists c.args.facts.now))) (take_all c.loop-i.i c.args.facts.now c.loop-i-test.false)

pub returns-clause-exact : goal.returns-clause-exact
returns-clause-exact c = exactly c

pub returns-clause-below : goal.returns-clause-below
returns-clause-below c = subst (λ gs. All (λ g. g < length c.args.facts.now) gs) (sym (exactly c)) (peripheral_below c.args.facts.now)

use Rattle.std.proofs.Common.{◌<◌, ◌≤◌, length, sym, subst, ap, Bor, ◌∙◌, arith}
use Rattle.std.specs.List.{All}
use Rattle.plan_model.specs.declared.groups.FuncFacts.{FuncFacts}
use Rattle.plan_model.specs.Policies.{filename_groups, move, optimized_groups}
use Rattle.plan_policies.proofs.Below.{optimized_below}
use Rattle.plan_policies.proofs.Moves.{moves_more, moves_all, length_moved}
use Rattle.plan_policies.proofs.policies.optimized_groups.Goals as goal

pub loop-i-preserved : goal.loop-i-preserved
loop-i-preserved c =
    let there : c.loop-i.i < length c.in_ok-sorted.sorted.items = omega arith in
    record {
      each = ap length c.move_one.ensures ∙ (length_moved c.loop-i.groups.items c.index.result.now.now ∙ c.loop-i.invariant.each);
      groups = moves_more c.in_ok-sorted.sorted.items c.loop-i.i c.index.result.now (filename_groups c.args.facts.now) c.loop-i.groups.items _ there c.loop-i.invariant.groups (c.move_one.ensures ∙ ap (λ (b : Bor FuncFacts). move c.loop-i.groups.items b.now) c.index.ensures);
    }

exactly : goal.returns-clause-exact
unfolding optimized_groups
exactly c =
    let past : length c.in_ok-sorted.sorted.items ≤ c.loop-i.i = omega arith in
    moves_all c.in_ok-sorted.sorted.items _ c.loop-i.i (filename_groups c.args.facts.now) c.loop-i.groups.items past c.in_ok-sorted.ensures.order c.loop-i.invariant.groups

pub returns-clause-exact : goal.returns-clause-exact
returns-clause-exact c = exactly c

pub returns-clause-below : goal.returns-clause-below
returns-clause-below c = λ files h. subst (λ gs. All (λ g. g < files) gs) (sym (exactly c)) (optimized_below files c.args.facts.now c.requires h)

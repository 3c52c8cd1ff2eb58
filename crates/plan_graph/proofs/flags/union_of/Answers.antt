use Rattle.std.proofs.Common.{rules, ◌∙◌, ◌++◌, ℕ, ap, nat_lt}
use Rattle.std.proofs.lemmas.Fn.{always_returns_same}
use Rattle.std.proofs.lemmas.List.{take_all}
use Rattle.std.proofs.lemmas.List.MinMax.{IsStrictWeakOrder-by_number}
use Rattle.plan_model.specs.Lists.{in_order, without}
use Rattle.plan_model.proofs.Orders.{sorted_is_in_order}
use Rattle.plan_graph.proofs.flags.union_of.Goals as goal

pub returns : goal.returns
returns c =
    let weak = IsStrictWeakOrder-by_number (λ (n : ℕ). n) in
    let compares = always_returns_same _ _ _ (λ a r f' k. search rules) in
    sorted_is_in_order nat_lt weak c.loop-i.all.items c.sort_by.new.self.items (c.in_ok-sort_by.ensures.sorted nat_lt weak compares) (c.sort_by.ensures.stable nat_lt weak compares)
    ∙ ap (in_order nat_lt) (c.loop-i.invariant ∙ ap (λ xs. c.args.ones.now ++ without xs c.args.ones.now) (take_all c.loop-i.i c.args.others.now c.loop-i-test.false))

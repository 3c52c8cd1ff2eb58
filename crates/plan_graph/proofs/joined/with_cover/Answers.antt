use Rattle.std.proofs.Common.{rules, ◌∙◌, ◌∷◌, not, filter, ap, nat_lt}
use Rattle.std.proofs.lemmas.Fn.{always_returns_same}
use Rattle.std.proofs.lemmas.List.{take_all}
use Rattle.std.proofs.lemmas.List.MinMax.{IsStrictWeakOrder-by_number}
use Rattle.plan_model.specs.declared.graph.Cover.{Cover}
use Rattle.plan_model.specs.Covers.{is_inside}
use Rattle.plan_model.specs.InitialGraph.{by_base}
use Rattle.plan_model.proofs.Orders.{sorted_is_in_order}
use Rattle.plan_graph.proofs.joined.with_cover.Goals as goal

pub returns : goal.returns
returns c =
    let lt = λ (a b : Cover). nat_lt a.base b.base in
    let weak = IsStrictWeakOrder-by_number (λ (d : Cover). d.base) in
    let compares = always_returns_same _ _ _ (λ a r f' k. search rules) in
    sorted_is_in_order lt weak c.loop-i.all.items c.sort_by.new.self.items (c.in_ok-sort_by.ensures.sorted lt weak compares) (c.sort_by.ensures.stable lt weak compares)
    ∙ ap by_base (c.loop-i.invariant ∙ ap (λ cs. c.args.cover ∷ filter (λ (d : Cover). not (is_inside d c.args.cover)) cs) (take_all c.loop-i.i c.args.covers.now c.loop-i-test.false))

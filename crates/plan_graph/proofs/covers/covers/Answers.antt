use Rattle.std.proofs.Common.{rules, ◌∙◌, ap, nat_lt}
use Rattle.std.proofs.lemmas.Fn.{always_returns_same}
use Rattle.std.proofs.lemmas.List.MinMax.{IsStrictWeakOrder-by_number}
use Rattle.plan_model.specs.declared.graph.Cover.{Cover}
use Rattle.plan_model.specs.InitialGraph.{by_base}
use Rattle.plan_model.proofs.Orders.{sorted_is_in_order}
use Rattle.plan_graph.proofs.covers.covers.Goals as goal

pub returns : goal.returns
returns c =
    let lt = λ (a b : Cover). nat_lt a.base b.base in
    let weak = IsStrictWeakOrder-by_number (λ (c : Cover). c.base) in
    let compares = always_returns_same _ _ _ (λ a r f' k. search rules) in
    sorted_is_in_order lt weak c.in_ok-covers.covers.items c.sort_by.new.self.items (c.in_ok-sort_by.ensures.sorted lt weak compares) (c.sort_by.ensures.stable lt weak compares)
    ∙ ap by_base c.in_ok-covers.ensures

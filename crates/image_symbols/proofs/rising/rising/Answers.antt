use Rattle.std.proofs.Common.{rules, ◌∙◌, ap, nat_lt}
use Rattle.std.proofs.lemmas.Fn.{always_returns_same}
use Rattle.std.proofs.lemmas.List.MinMax.{IsStrictWeakOrder-by_number}
use Rattle.plan_model.specs.Lists.{in_order}
use Rattle.plan_model.proofs.Orders.{sorted_is_in_order}
use Rattle.image_symbols.specs.declared.rising.Lying.{Lying}
use Rattle.image_symbols.proofs.rising.rising.Goals as goal

pub returns : goal.returns
returns c =
    let lt = λ (a b : Lying). nat_lt a.address b.address in
    let weak = IsStrictWeakOrder-by_number (λ (a : Lying). a.address) in
    let compares = always_returns_same _ _ _ (λ a r f' k. search rules) in
    sorted_is_in_order lt weak c.in_ok-all.all.items c.sort_by.new.self.items (c.in_ok-sort_by.ensures.sorted lt weak compares) (c.sort_by.ensures.stable lt weak compares)
    ∙ ap (in_order lt) c.in_ok-all.ensures

use Rattle.std.proofs.Common.{rules, ◌∙◌, ap, map, nat_lt}
use Rattle.std.proofs.lemmas.Fn.{always_returns_same}
use Rattle.std.proofs.lemmas.List.MinMax.{IsStrictWeakOrder-by_number, IsStrictWeakOrder-flip}
use Rattle.plan_model.proofs.Orders.{sorted_is_in_order}
use Rattle.plan_layout.specs.declared.ram.UsedBlock.{UsedBlock}
use Rattle.plan_layout.specs.Filling.{block_seen}
use Rattle.plan_layout.proofs.Sorted.{falling_seen}
use Rattle.plan_layout.proofs.ram.falling.Goals as goal

pub returns : goal.returns
returns c =
    let lt = λ (a b : UsedBlock). nat_lt b.size a.size in
    let weak = IsStrictWeakOrder-flip (λ (a b : UsedBlock). nat_lt a.size b.size) (IsStrictWeakOrder-by_number (λ (b : UsedBlock). b.size)) in
    let compares = always_returns_same _ _ _ (λ a r f' k. search rules) in
    ap (map block_seen) (sorted_is_in_order lt weak c.args.blocks.items c.sort_by.new.self.items (c.in_ok-sort_by.ensures.sorted lt weak compares) (c.sort_by.ensures.stable lt weak compares))
    ∙ falling_seen c.args.blocks.items

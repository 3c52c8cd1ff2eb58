use Rattle.std.proofs.Common.{ap, ◌∙◌, length, List, arith}
use Rattle.std.specs.Prelude.{option_and_then}
use Rattle.toml.specs.declared.value.Value.{Value}
use Rattle.plan_board.specs.Denied.{two_in}
use Rattle.plan_board.proofs.Denials.{few_items, many_items}
use Rattle.plan_board.proofs.denied.two_of.Goals as goal

pub returns-in_default : goal.returns-in_default
returns-in_default c =
    let few = c.in_default.len_below in
    let same = ap (λ (vs : List Value). length vs) c.as_slice.ensures.value in
    few_items c.in_ok-as_array.field-0.now.items (omega (arith, few, same)) ∙ ap (option_and_then two_in) c.in_ok-as_array.ensures

pub returns-in_default-2 : goal.returns-in_default-2
returns-in_default-2 c =
    let many = c.in_default.len_at_least in
    let same = ap (λ (vs : List Value). length vs) c.as_slice.ensures.value in
    many_items c.in_ok-as_array.field-0.now.items (omega (arith, many, same)) ∙ ap (option_and_then two_in) c.in_ok-as_array.ensures

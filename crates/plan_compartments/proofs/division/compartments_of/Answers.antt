use Rattle.std.proofs.Common.{get_or, ap, ◌∙◌}
use Rattle.plan_model.specs.declared.groups.FuncFacts.{FuncFacts}
use Rattle.plan_compartments.proofs.Numbers.{made_of_numbers}
use Rattle.plan_compartments.proofs.division.compartments_of.Goals as goal

pub returns : goal.returns
returns c =
    let numbers = c.args.numbers.now in
    made_of_numbers _ numbers c.args.facts.now c.groups-made.result c.requires c.if-numbers-count.false
    (λ f g h. let k = rw c.new-grouping.ensures.callback at h in k.says.met ∙ ap (λ (x : FuncFacts). get_or numbers x.index 0) k.shows) c.groups-made.ensures

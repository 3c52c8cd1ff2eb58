use Rattle.std.proofs.Common.{subst, sym, refl, ap, ◌∙◌}
use Rattle.std.specs.Prelude.{option_map, IfOk}
use Rattle.ir_program.specs.Seen.{program_of}
use Rattle.plan_graph.specs.Choices.{pair_of}
use Rattle.plan_graph.specs.Merging.{CameTo}
use Rattle.plan_graph.proofs.Pairs.{regions_chosen}
use Rattle.plan_graph.proofs.Steps.{none_next, covers_next, regions_joined}
use Rattle.plan_graph.proofs.merging.Merging.join.Goals as goal

pub returns-in_default-clause-graph : goal.returns-in_default-clause-graph
returns-in_default-clause-graph c =
    let m = c.args.self.now in
    (none_next (program_of m.program.now) c.args.slots m.graph (sym c.in_ok-compartment.ensures ∙ c.in_default.is), refl)

pub join_regions-requires-clause-first : goal.join_regions-requires-clause-first
join_regions-requires-clause-first c =
    let m = c.args.self.now in
    (regions_chosen (program_of m.program.now) m.graph.regions c.in-Some.compartment c.in-Some-2.choice (ap (option_map pair_of) (sym c.in-Some-2.is) ∙ c.in_ok-choice.ensures)).first

pub join_regions-requires-clause-second : goal.join_regions-requires-clause-second
join_regions-requires-clause-second c =
    let m = c.args.self.now in
    (regions_chosen (program_of m.program.now) m.graph.regions c.in-Some.compartment c.in-Some-2.choice (ap (option_map pair_of) (sym c.in-Some-2.is) ∙ c.in_ok-choice.ensures)).second

pub returns-in-Some-2-clause-graph : goal.returns-in-Some-2-clause-graph
returns-in-Some-2-clause-graph c =
    let m = c.args.self.now in
    regions_joined (program_of m.program.now) c.args.slots m.graph c.join_regions.new.self.graph c.in-Some.compartment c.in-Some-2.choice (sym c.in_ok-compartment.ensures ∙ c.in-Some.is)
    (ap (option_map pair_of) (sym c.in-Some-2.is) ∙ c.in_ok-choice.ensures) c.in_ok-join_regions.ensures.graph

pub returns-clause-graph : goal.returns-clause-graph
returns-clause-graph c =
    let m = c.args.self.now in
    subst (λ o. IfOk c.join_covers.result (λ joined. CameTo joined o m.graph c.join_covers.new.self.graph))
    (sym (covers_next (program_of m.program.now) c.args.slots m.graph c.in-Some.compartment (sym c.in_ok-compartment.ensures ∙ c.in-Some.is) (sym c.in_ok-choice.ensures ∙ ap (option_map pair_of) c.in_default-2.is)))
    c.join_covers.ensures.graph

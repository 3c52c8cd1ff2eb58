use Rattle.std.proofs.Common.{◌≡◌, ◌<◌, length, set, ap, ◌∙◌, arith}
use Rattle.plan_graph.proofs.Pairs.{covers_chosen}
use Rattle.plan_graph.proofs.Steps.{covers_joined}
use Rattle.plan_graph.proofs.merging.Merging.join_covers.Goals as goal

pub offset_bounds-covers-choice : goal.offset_bounds-covers-choice
offset_bounds-covers-choice c =
    let chosen = covers_chosen c.covers-covers.result.now c.in-Some.choice c.in-Some.ensures in
    let rising = chosen.rising in
    let below = chosen.below in
    let there : c.in-Some.choice.first < length c.covers-covers.result.now = omega arith in
    omega arith

pub bounds-covers-choice : goal.bounds-covers-choice
bounds-covers-choice c =
    let chosen = covers_chosen c.covers-covers.result.now c.in-Some.choice c.in-Some.ensures in
    let rising = chosen.rising in
    let below = chosen.below in
    let there : c.in-Some.choice.first < length c.covers-covers.result.now = omega arith in
    there

pub offset_bounds-covers-choice-2 : goal.offset_bounds-covers-choice-2
offset_bounds-covers-choice-2 c =
    let chosen = covers_chosen c.covers-covers.result.now c.in-Some.choice c.in-Some.ensures in
    let below : c.in-Some.choice.second < length c.covers-covers.result.now = chosen.below in
    omega arith

pub bounds-covers-choice-2 : goal.bounds-covers-choice-2
bounds-covers-choice-2 c = (covers_chosen c.covers-covers.result.now c.in-Some.choice c.in-Some.ensures).below

pub returns-clause-graph : goal.returns-clause-graph
returns-clause-graph c =
    let all : c.into_vec-all.result.items ≡ c.args.self.now.graph.covers = c.into_vec-all.ensures ∙ c.replace.ensures.value in
    covers_joined c.args.self.now.graph c.args.compartment c.in-Some.choice c.covers-covers.result.now c.in-Some-join_of.cover c.new-3.result c.new-4.result
    c.in-Some.ensures c.covers-covers.ensures c.in-Some-join_of.ensures.cover c.in-Some-join_of.ensures.one c.in-Some-join_of.ensures.other (c.new-3.ensures ∙ c.in_ok-covers.ensures)
    (c.new-4.ensures ∙ ap (λ ds. set ds c.args.compartment c.new-3.result) all)

use Rattle.std.proofs.Common.{◌≡◌, ◌<◌, ◌+◌, ◌-◌, [], drop, length, map, subst, sym, ap, ◌∙◌}
use Rattle.std.specs.Prelude.{option_map}
use Rattle.std.specs.List.{All}
use Rattle.std.proofs.lemmas.List.{drop_all}
use Rattle.std.proofs.lemmas.List.Elements.{All-get_or, All-drop, All-take}
use Rattle.ir_program.specs.Seen.{program_of}
use Rattle.plan_model.specs.Choices.{pairs, cheapest}
use Rattle.plan_model.specs.Merging.{region_cost}
use Rattle.plan_model.specs.Regions.{regions_used}
use Rattle.plan_graph.specs.Choices.{pair_of, priced, cheapest_from}
use Rattle.plan_graph.proofs.Cheapest.{cheapest_is}
use Rattle.plan_graph.proofs.Pairs.{used_below}
use Rattle.plan_graph.proofs.merging.Merging.region_pair.Goals as goal

pub with_later-best-requires-clause-first : goal.with_later-best-requires-clause-first
with_later-best-requires-clause-first c =
    let g = c.args.self.now.graph in
    let known : c.as_slice-places.result.now ≡ regions_used g.regions c.args.compartment = c.as_slice-places.ensures.value ∙ c.in_ok-used.ensures in
    All-get_or (λ r. r < length g.regions) c.as_slice-places.result.now c.loop-i.i 0 c.loop-i-test.true (subst (All (λ r. r < length g.regions)) (sym known) (used_below g.regions c.args.compartment))

pub with_later-best-requires-clause-later : goal.with_later-best-requires-clause-later
with_later-best-requires-clause-later c =
    let g = c.args.self.now.graph in
    let known : c.as_slice-places.result.now ≡ regions_used g.regions c.args.compartment = c.as_slice-places.ensures.value ∙ c.in_ok-used.ensures in
    All-take (λ r. r < length g.regions) (length c.as_slice-places.result.now - (c.loop-i.i + 1)) (drop (c.loop-i.i + 1) c.as_slice-places.result.now)
    (All-drop (λ r. r < length g.regions) (c.loop-i.i + 1) c.as_slice-places.result.now (subst (All (λ r. r < length g.regions)) (sym known) (used_below g.regions c.args.compartment)))

pub returns : goal.returns
returns c =
    let g = c.args.self.now.graph in
    let price = region_cost (program_of c.args.self.now.program.now) g.regions in
    let places = c.as_slice-places.result.now in
    let known : places ≡ regions_used g.regions c.args.compartment = c.as_slice-places.ensures.value ∙ c.in_ok-used.ensures in
    let none : drop c.loop-i.i places ≡ [] = drop_all c.loop-i.i places c.loop-i-test.false in
    ap (option_map pair_of) (sym (ap (λ ms. cheapest_from c.loop-i.best (map (priced price) (pairs ms))) none) ∙ c.loop-i.invariant)
    ∙ (cheapest_is price (pairs places) ∙ ap (λ ns. cheapest price (pairs ns)) known)

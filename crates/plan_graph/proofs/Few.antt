-- Where no further join applies, each compartment has at most as many data regions and covers as there are slots.
use Rattle.std.proofs.Common.{◌≡◌, ℕ, ◌<◌, ◌≤◌, ◌+◌, true, List, [], ◌∷◌, length, get_or, Option, Some, None, refl, sym, subst, arith}
use Rattle.std.specs.Prelude.{IfSome}
use Rattle.std.proofs.lemmas.Bool.{ltb-false, ltb-true}
use Rattle.std.proofs.lemmas.List.FromFn.{length-range_with_len}
use Rattle.ir_model.specs.Resolved.{Program}
use Rattle.plan_model.specs.declared.graph.Graph.{Graph}
use Rattle.plan_model.specs.declared.graph.Final.{Final}
use Rattle.plan_model.specs.FinalGraph.{IsMerged}
use Rattle.plan_model.specs.Choices.{Pair, pairs, cheapest}
use Rattle.plan_model.specs.Lists.{numbers_below}
use Rattle.plan_model.specs.Regions.{regions_used}
use Rattle.plan_model.specs.Merging.{first_too_rich, is_too_rich, region_cost, region_pair, cover_cost, cover_pair, covers_at, with_joined_regions, with_joined_covers, relieved_if, relieved, next}
use Rattle.plan_graph.proofs.Found.{none_passes, found_passes}
use Rattle.base_laws.proofs.Options.{none_mapped}

at_most_one : (cost : Pair → ℕ) (ns : List ℕ) → cheapest cost (pairs ns) ≡ None → length ns ≤ 1
at_most_one cost [] e = omega arith
at_most_one cost (n ∷ []) e = omega arith
at_most_one cost (n ∷ m ∷ ns) e = let wrong : Some _ ≡ None = e in cc

module _ (p : Program) (slots : ℕ) (g : Graph) (two : 2 ≤ slots) where
  never : (c : ℕ) → is_too_rich slots g c ≡ true → region_pair p g.regions c ≡ None → cover_pair (covers_at g c) ≡ None → ⊥
  never c h r d =
      let rich = ltb-true slots (length (regions_used g.regions c) + length (covers_at g c)) h in
      let one = at_most_one (region_cost p g.regions) (regions_used g.regions c) r in
      let other = at_most_one (cover_cost (covers_at g c)) (numbers_below (length (covers_at g c))) d in
      let size = length-range_with_len 0 (length (covers_at g c)) in
      omega arith

  none_rich : (o : Option ℕ) → first_too_rich slots g ≡ o → IfSome o (λ c. (is_too_rich slots g c ≡ true) × (c < 0 + g.groups.count)) → relieved_if p g o ≡ None → first_too_rich slots g ≡ None
  none_rich None e h n = e
  none_rich (Some c) e h n = by (region_pair p g.regions c) refl n
    where
      by : (r : Option Pair) → region_pair p g.regions c ≡ r → relieved p g c r ≡ None → first_too_rich slots g ≡ None
      by None f n = absurd (never c h.0 f (none_mapped (with_joined_covers g c) (cover_pair (covers_at g c)) n))
      by (Some q) f n = let wrong : Some (with_joined_regions g q) ≡ None = n in cc

  pub few_parts : next p slots g ≡ None → (c : ℕ) → c < g.groups.count → length (regions_used g.regions c) + length (covers_at g c) ≤ slots
  unfolding next
  few_parts e c l =
      let none = none_rich (first_too_rich slots g) refl (found_passes (is_too_rich slots g) g.groups.count) e in
      ltb-false slots (length (regions_used g.regions c) + length (covers_at g c)) (none_passes (is_too_rich slots g) g.groups.count none c l)

pub few_merged : (p : Program) (slots : ℕ) (g : Graph) (f : Final) → 2 ≤ slots → IsMerged p slots g f → (c : ℕ) → c < f.groups.count → length (regions_used f.regions c) + length (get_or f.covers c []) ≤ slots
few_merged p slots g f two m = subst (λ (h : Final). (c : ℕ) → c < h.groups.count → length (regions_used h.regions c) + length (get_or h.covers c []) ≤ slots) (sym m.is) (few_parts p slots m.last two m.ended)

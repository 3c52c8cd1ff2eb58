-- The next join, case by case; each leaves fewer parts.
use Rattle.std.proofs.Common.{◌≡◌, ℕ, ◌<◌, ◌+◌, true, List, [], length, set, Some, None, sym, ap, subst, ◌∙◌, arith}
use Rattle.std.specs.Prelude.{option_map, sum_by}
use Rattle.std.proofs.lemmas.Bool.{cases_lt}
use Rattle.std.proofs.lemmas.List.{length-set, get_or_past}
use mathlib.Core.Logic.{⊎_elim}
use Rattle.std.proofs.lemmas.List.Edits.{length-remove}
use Rattle.std.proofs.lemmas.List.Sums.{sum_by-set}
use Rattle.ir_model.specs.Resolved.{Program}
use Rattle.plan_model.specs.declared.graph.Graph.{Graph}
use Rattle.plan_model.specs.declared.graph.DataRegion.{DataRegion}
use Rattle.plan_model.specs.declared.graph.Cover.{Cover}
use Rattle.plan_model.specs.Choices.{Pair}
use Rattle.plan_model.specs.Merging.{first_too_rich, relieved_if, relieved, region_pair, cover_pair, covers_at, joined_region, with_joined_regions, with_joined_cover, with_joined_covers, next}
use Rattle.plan_model.specs.Regions.{region_at}
use Rattle.plan_model.specs.Covers.{is_inside, joined, cover_at, with_cover}
use Rattle.plan_graph.specs.declared.choices.Choice.{Choice}
use Rattle.plan_graph.specs.Choices.{pair_of}
use Rattle.plan_graph.specs.Merging.{parts_of, CameTo}
use Rattle.plan_graph.proofs.FewerCovers.{fewer_covers}
use Rattle.plan_graph.proofs.Pairs.{AreRegions, regions_chosen, covers_chosen}

-- ---- the cases

pub none_next : (p : Program) (slots : ℕ) (g : Graph) → first_too_rich slots g ≡ None → next p slots g ≡ None
unfolding next
none_next p slots g e = ap (relieved_if p g) e

pub regions_next : (p : Program) (slots : ℕ) (g : Graph) (c : ℕ) (q : Pair) → first_too_rich slots g ≡ Some c → region_pair p g.regions c ≡ Some q → next p slots g ≡ Some (with_joined_regions g q)
unfolding next
regions_next p slots g c q e f = ap (relieved_if p g) e ∙ ap (relieved p g c) f

pub covers_next : (p : Program) (slots : ℕ) (g : Graph) (c : ℕ) → first_too_rich slots g ≡ Some c → region_pair p g.regions c ≡ None → next p slots g ≡ option_map (with_joined_covers g c) (cover_pair (covers_at g c))
unfolding next
covers_next p slots g c e f = ap (relieved_if p g) e ∙ ap (relieved p g c) f

-- ---- fewer parts

pub fewer_regions : (g : Graph) (q : Pair) → AreRegions g.regions q → parts_of (with_joined_regions g q) < parts_of g
fewer_regions g q h =
    let joined : DataRegion = joined_region (region_at g.regions q.first) (region_at g.regions q.second) in
    let same = length-set g.regions q.first joined in
    let there : q.second < length (set g.regions q.first joined) = let l = h.second in omega arith in
    let less = length-remove (set g.regions q.first joined) q.second there in
    omega arith

pub fewer_parts : (g : Graph) (c : ℕ) (cs : List Cover) → c < length g.covers → length cs < length (covers_at g c) → length g.regions + sum_by (λ (ds : List Cover). length ds) (set g.covers c cs) < parts_of g
fewer_parts g c cs l less = let e = sum_by-set (λ (ds : List Cover). length ds) g.covers c cs [] l in omega arith

-- ---- what the code has joined

pub regions_joined : (p : Program) (slots : ℕ) (g h : Graph) (c : ℕ) (choice : Choice) → first_too_rich slots g ≡ Some c → option_map pair_of (Some choice) ≡ region_pair p g.regions c
    → h ≡ with_joined_regions g (pair_of choice) → CameTo true (next p slots g) g h
regions_joined p slots g h c choice e f a = (
  regions_next p slots g c (pair_of choice) e (sym f) ∙ ap (λ (k : Graph). Some k) (sym a),
  subst (λ (k : Graph). parts_of k < parts_of g) (sym a) (fewer_regions g (pair_of choice) (regions_chosen p g.regions c choice f)),
)

has_covers : (g : Graph) (c n : ℕ) → n < length (covers_at g c) → c < length g.covers
has_covers g c n l = ⊎_elim (λ lt. lt) (λ le. absurd (let none = ap length (get_or_past g.covers c [] le) in omega arith)) (cases_lt c (length g.covers))

pub covers_joined : (g : Graph) (c : ℕ) (choice : Choice) (cs : List Cover) (cover : Cover) (made : List Cover) (all : List (List Cover))
    → option_map pair_of (Some choice) ≡ cover_pair cs → cs ≡ covers_at g c → cover ≡ joined (cover_at cs choice.first) (cover_at cs choice.second)
    → is_inside (cover_at cs choice.first) cover ≡ true → is_inside (cover_at cs choice.second) cover ≡ true
    → made ≡ with_cover cs cover → all ≡ set g.covers c made
    → CameTo true (option_map (with_joined_covers g c) (cover_pair (covers_at g c))) g (record g { covers = all })
covers_joined g c choice cs cover made all e v j one other m a =
    let chosen = covers_chosen cs choice e in
    let rising = chosen.rising in
    let below = chosen.below in
    let same = ap length v in
    let size = ap length m in
    let fewer = fewer_covers cs (pair_of choice) cover rising below one other in
    let there : c < length g.covers = has_covers g c choice.second (omega arith) in
    let less : length made < length (covers_at g c) = omega arith in
    let joins : made ≡ with_joined_cover (covers_at g c) (pair_of choice) = m ∙ (ap (with_cover cs) j ∙ ap (λ ds. with_joined_cover ds (pair_of choice)) v) in (
      ap (option_map (with_joined_covers g c)) (ap cover_pair (sym v) ∙ sym e) ∙ ap (λ (xs : List (List Cover)). let h : Graph = record g { covers = xs } in Some h) (sym (a ∙ ap (set g.covers c) joins)),
      subst (λ xs. length g.regions + sum_by (λ (ds : List Cover). length ds) xs < parts_of g) (sym a) (fewer_parts g c made there less),
    )

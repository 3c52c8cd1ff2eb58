-- One join in the graph: of two data regions or of two covers, for the first compartment that has more of both than slots.
use Rattle.std.specs.Prelude.{ℕ, ◌+◌, Bool, List, [], length, get_or, set, remove, Option, Some, None, find, option_map, nat_lt}
use Rattle.ir_model.specs.Resolved.{Program}
use Rattle.plan_model.specs.declared.graph.DataRegion.{DataRegion}
use Rattle.plan_model.specs.declared.graph.Cover.{Cover}
use Rattle.plan_model.specs.declared.graph.Graph.{Graph}
use Rattle.plan_model.specs.Lists.{numbers_below, union}
use Rattle.plan_model.specs.Choices.{Pair, pairs, cheapest}
use Rattle.plan_model.specs.Regions.{region_at, regions_used}
use Rattle.plan_model.specs.Exposure.{added_exposure}
use Rattle.plan_model.specs.Covers.{joined, joined_size, with_cover, cover_at}

-- the covers of a compartment
abbrev pub covers_at : Graph → (compartment : ℕ) → List Cover
covers_at g c = get_or g.covers c []

-- more data regions and covers than slots
abbrev pub is_too_rich : (slots : ℕ) → Graph → (compartment : ℕ) → Bool
is_too_rich slots g c = nat_lt slots (length (regions_used g.regions c) + length (covers_at g c))

-- the lowest-numbered compartment that is too rich, if there is one
abbrev pub first_too_rich : (slots : ℕ) → Graph → Option ℕ
first_too_rich slots g = find (is_too_rich slots g) (numbers_below g.groups.count)

-- ---- two data regions

-- the globals, the writers and the readers of both
abbrev pub joined_region : DataRegion → DataRegion → DataRegion
joined_region a b =
    record { globals = union a.globals b.globals; writers = union a.writers b.writers; readers = union a.readers b.readers }

-- the joined region has the lower place
abbrev pub with_joined_region : List DataRegion → Pair → List DataRegion
with_joined_region rs q = remove (set rs q.first (joined_region (region_at rs q.first) (region_at rs q.second))) q.second

-- what the join of two regions costs
abbrev pub region_cost : Program → List DataRegion → Pair → ℕ
region_cost p rs q = added_exposure p (region_at rs q.first) (region_at rs q.second)

-- the two of the compartment's data regions whose join adds least exposure, if it has two
abbrev pub region_pair : Program → List DataRegion → (compartment : ℕ) → Option Pair
region_pair p rs c = cheapest (region_cost p rs) (pairs (regions_used rs c))

-- the graph with these two joined
abbrev pub with_joined_regions : Graph → Pair → Graph
with_joined_regions g q = record g { regions = with_joined_region g.regions q }

-- ---- two covers

-- what the join of two covers costs
abbrev pub cover_cost : List Cover → Pair → ℕ
cover_cost cs q = joined_size (cover_at cs q.first) (cover_at cs q.second)

-- the two of these covers whose joined cover is least, if there are two
abbrev pub cover_pair : List Cover → Option Pair
cover_pair cs = cheapest (cover_cost cs) (pairs (numbers_below (length cs)))

-- the covers with these two joined
abbrev pub with_joined_cover : List Cover → Pair → List Cover
with_joined_cover cs q = with_cover cs (joined (cover_at cs q.first) (cover_at cs q.second))

-- the graph with these covers of a compartment joined
abbrev pub with_joined_covers : Graph → (compartment : ℕ) → Pair → Graph
with_joined_covers g c q = record g { covers = set g.covers c (with_joined_cover (covers_at g c) q) }

-- ---- the step

-- two data regions are joined where the compartment has two, else two covers
abbrev pub relieved : Program → Graph → (compartment : ℕ) → Option Pair → Option Graph
relieved p g c (Some q) = Some (with_joined_regions g q)
relieved p g c None = option_map (with_joined_covers g c) (cover_pair (covers_at g c))

-- for a compartment, if there is one
abbrev pub relieved_if : Program → Graph → Option ℕ → Option Graph
relieved_if p g None = None
relieved_if p g (Some c) = relieved p g c (region_pair p g.regions c)

-- the graph after one join for the lowest-numbered compartment that is too rich, if there is one
unfoldable pub next : Program → (slots : ℕ) → Graph → Option Graph
next p slots g = relieved_if p g (first_too_rich slots g)

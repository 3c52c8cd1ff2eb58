-- How many bytes the vectors, the monitor's code and its tables have.
use Rattle.std.specs.Prelude.{ℕ, ◌+◌, ◌*◌, ◌/◌, List, [], ◌∷◌, ◌++◌, length, map, sum_by}
use Rattle.ir_model.specs.Layout.{rounded_up}
use Rattle.ir_model.specs.Resolved.{Program}
use Rattle.plan_model.specs.declared.needs.Needs.{Needs}
use Rattle.plan_model.specs.declared.graph.DataRegion.{DataRegion}
use Rattle.plan_model.specs.declared.graph.Final.{Final}
use Rattle.plan_model.specs.Crossing.{crossing_sites, target_count}
use Rattle.plan_model.specs.Lending.{lent}
use Rattle.plan_model.specs.Blocks.{region_bytes}

-- a list of this list, or of none
abbrev pub unless_empty : List ℕ → List (List ℕ)
unless_empty [] = []
unless_empty (n ∷ ns) = (n ∷ ns) ∷ []

-- the globals of each block that start-up fills: those of the data regions in order, then those of none where there are any
abbrev pub filled_blocks : Final → List (List ℕ)
filled_blocks f = map (λ (r : DataRegion). r.globals) f.regions ++ unless_empty f.unwritten

-- the words that fill a block of these globals
abbrev pub words_in : Program → (globals : List ℕ) → ℕ
words_in p xs = rounded_up (region_bytes p xs) 4 / 4

-- the words that fill them all
abbrev pub initial_words : Program → Final → ℕ
initial_words p f = sum_by (words_in p) (filled_blocks f)

-- bytes of the page that has the vectors and the monitor's code
abbrev pub page_bytes : ℕ
page_bytes = 4096

-- the page; 8 words of counts and places; for each compartment the words of 1 + slots regions and two
-- masks; 3 words for each crossing site, 2 for each of its targets, 1 for each lent local, 3 for each block that start-up fills;
-- and the initial words
unfoldable pub table_bytes : Program → Needs → Final → (slots : ℕ) → ℕ
table_bytes p n f slots =
    page_bytes
    + 4 * 8
    + (8 * slots + 16) * f.groups.count
    + 12 * length (crossing_sites n f.groups)
    + 8 * target_count (crossing_sites n f.groups)
    + 4 * length (lent n f.groups)
    + 12 * length (filled_blocks f)
    + 4 * initial_words p f

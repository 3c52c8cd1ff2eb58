-- The lines of one compartment: its code, its functions, its slots of the protection unit, the locals that are lent to it, how many bytes
-- it may reach without need, and which addresses of its ranges of peripherals nobody declares.
use Rattle.std.specs.Prelude.{ℕ, ◌+◌, List, [], ◌++◌, Bool, not, ◌&&◌, map, filter, flat_map, codes, get_or, length, if◌then◌else◌, nat_eq}
use Rattle.std.specs.Int.{bit_at}
use Rattle.std.specs.Fmt.{decimal}
use Rattle.machine_lines.specs.Lines.{line_feed}
use Rattle.ir_model.specs.declared.object.ObjId.TheVariants.{Local}
use Rattle.plan_model.specs.declared.graph.Cover.{Cover}
use Rattle.plan_model.specs.declared.graph.DataRegion.{DataRegion}
use Rattle.plan_model.specs.declared.plan.Spot.{Spot}
use Rattle.plan_model.specs.Lists.{numbers_below, has}
use Rattle.plan_model.specs.Groups.{functions_of, writes}
use Rattle.plan_model.specs.InitialGraph.{cover_of}
use Rattle.plan_model.specs.Covers.{is_inside, cover_at}
use Rattle.plan_model.specs.Regions.{region_at, regions_used}
use Rattle.plan_model.specs.Exposure.{exposed_to_writes, exposed_to_reads}
use Rattle.plan_model.specs.Placement.{region_spot, compartment_spot}
use Rattle.plan_report.specs.Subjects.{Subject}
use Rattle.plan_report.specs.Names.{global_name, periph_name, func_name, local_name, spaced, range_text}
use Rattle.plan_report.specs.Undeclared.{Range, undeclared_ranges}

-- whether a compartment may write a region, or only read it
abbrev pub word_of : DataRegion → (compartment : ℕ) → List ℕ
word_of r c = if has r.writers c then codes " data" else codes " read"

-- ---- functions and locals

abbrev pub function_line : Subject → (func : ℕ) → List ℕ
function_line s f = codes "function " ++ func_name s.firmware f ++ line_feed

-- a lent local, by its function's number and its own
abbrev pub lent_line : Subject → (word : List ℕ) → ℕ × ℕ → List ℕ
lent_line s word x = word ++ func_name s.firmware x.0 ++ codes "." ++ local_name s.firmware x.0 x.1 ++ line_feed

-- ---- covers

-- every declared peripheral inside a cover
abbrev pub periphs_inside : Subject → Cover → List ℕ
periphs_inside s d = filter (λ q. is_inside (cover_of s.program q) d) (numbers_below (length s.program.periphs))

abbrev pub cover_line : Subject → (slot : ℕ) → Cover → List ℕ
cover_line s k d =
    codes "slot " ++ decimal k ++ codes " periph" ++ range_text d.base d.size
    ++ spaced (map (periph_name s.firmware) (periphs_inside s d)) ++ line_feed

-- addresses of a cover that no peripheral declares, behind these words
abbrev pub undeclared_line : (words : List ℕ) → Range → List ℕ
undeclared_line words r = words ++ range_text r.base r.size ++ line_feed

abbrev pub undeclared_in : Subject → (words : List ℕ) → Cover → List ℕ
undeclared_in s words d = flat_map (undeclared_line words) (undeclared_ranges s.program.periphs d)

-- ---- a compartment

-- of a subject and one of its compartments
module _ (s : Subject) (c : ℕ) where
  abbrev pub code_line : List ℕ
  code_line =
      let spot : Spot = compartment_spot s.plan c in
      codes "compartment " ++ decimal c ++ codes " code" ++ range_text spot.base spot.size ++ line_feed

  -- ---- functions

  unfoldable pub function_lines : List ℕ
  function_lines = flat_map (function_line s) (functions_of s.graph.groups c)

  -- ---- slots of the protection unit, numbered from 4 on

  abbrev pub region_line : (slot region : ℕ) → List ℕ
  region_line k r =
      let spot : Spot = region_spot s.plan r in
      codes "slot " ++ decimal k ++ word_of (region_at s.graph.regions r) c ++ range_text spot.base spot.size
      ++ spaced (map (global_name s.firmware) (region_at s.graph.regions r).globals) ++ line_feed

  -- the data regions in order, by their numbers
  abbrev pub used_regions : List ℕ
  used_regions = regions_used s.graph.regions c

  -- the covers in order of their bases
  abbrev pub covers : List Cover
  covers = get_or s.graph.covers c []

  unfoldable pub region_lines : (regions : List ℕ) → List ℕ
  region_lines rs = flat_map (λ i. region_line (4 + i) (get_or rs i 0)) (numbers_below (length rs))

  unfoldable pub cover_lines : (first : ℕ) → List Cover → List ℕ
  cover_lines k ds = flat_map (λ i. cover_line s (k + i) (cover_at ds i)) (numbers_below (length ds))

  unfoldable pub slot_lines : List ℕ
  slot_lines = region_lines used_regions ++ cover_lines (4 + length used_regions) covers

  -- ---- lent locals

  -- those that one of its functions may write
  abbrev pub written_locals : List (ℕ × ℕ)
  written_locals = filter (λ (x : ℕ × ℕ). writes s.needs s.graph.groups c (Local x.0 x.1)) s.needs.lendable

  -- whether it may read a lendable local and may not write it, by the masks
  abbrev pub is_read_alone : (number : ℕ) → Bool
  is_read_alone i = nat_eq (bit_at (get_or s.graph.reads c 0) i) 1 && not (nat_eq (bit_at (get_or s.graph.masks c 0) i) 1)

  abbrev pub read_locals : List (ℕ × ℕ)
  read_locals = map (λ i. get_or s.needs.lendable i (0, 0)) (filter is_read_alone (numbers_below (length s.needs.lendable)))

  unfoldable pub lent_lines : List ℕ
  lent_lines =
      flat_map (lent_line s (codes "lend ")) written_locals
      ++ (if s.board.closed then flat_map (lent_line s (codes "lend-read ")) read_locals else [])

  -- ---- the bytes that it may reach by its regions though none of its functions does

  abbrev pub read_exposure : List ℕ
  read_exposure =
      if s.board.closed
      then codes " read " ++ decimal (exposed_to_reads s.program s.needs s.graph.groups s.graph.regions c)
      else []

  unfoldable pub exposed_line : List ℕ
  exposed_line =
      codes "exposed " ++ decimal (exposed_to_writes s.program s.needs s.graph.groups s.graph.regions c)
      ++ read_exposure ++ line_feed

  -- ---- the addresses of its covers that nobody declares

  -- each range lies in one cover
  unfoldable pub undeclared_lines : (words : List ℕ) → List ℕ
  undeclared_lines words = flat_map (undeclared_in s words) covers

  abbrev pub compartment_lines : List ℕ
  compartment_lines = code_line ++ function_lines ++ slot_lines ++ lent_lines ++ exposed_line ++ undeclared_lines (codes "undeclared")

-- Beyond the program's claim: only laws, proofs and functions inside the tool cite this file.
-- Where globals lie, for those that use a plan.
use Rattle.std.specs.Prelude.{◌≡◌, ◌≢◌, ℕ, ◌+◌, ◌%◌, ◌<◌, ◌≤◌, List, Some, None, true}
use Rattle.base_ranges.specs.Ranges.{AreApart}
use Rattle.ir_model.specs.Resolved.{Program, global_at}
use Rattle.plan_model.specs.declared.graph.Final.{Final}
use Rattle.plan_model.specs.declared.plan.Board.{Board}
use Rattle.plan_model.specs.declared.plan.Sizes.{Sizes}
use Rattle.plan_model.specs.Boards.{IsBoard}
use Rattle.plan_model.specs.Lists.{has}
use Rattle.plan_model.specs.Regions.{global_size}
use Rattle.plan_model.specs.Blocks.{offset_in_region, region_bytes}
use Rattle.plan_model.specs.RamBlocks.{ForRegion, ForUnwritten}
use Rattle.plan_model.specs.Placement.{Fits, plan_of, region_with, global_address}
use Rattle.plan_layout_laws.specs.RamLaws.{HoldsAddress}

-- no alignment is 0
abbrev pub HasAlignments : Program → Type 0
HasAlignments p = (x : ℕ) → 0 < (global_at p x).shape.align

-- the globals of a region stand at multiples of their alignments, among the region's bytes, and apart
pub record AreLaid (p : Program) (globals : List ℕ) : Type 0 where
  pub aligned : (x : ℕ) → has globals x ≡ true → offset_in_region p globals x % (global_at p x).shape.align ≡ 0
  pub among : (x : ℕ) → has globals x ≡ true → offset_in_region p globals x + global_size p x ≤ region_bytes p globals
  pub apart : (x y : ℕ) → has globals x ≡ true → has globals y ≡ true → x ≢ y
      → AreApart (offset_in_region p globals x) (global_size p x) (offset_in_region p globals y) (global_size p y)

abbrev pub GlobalsAreLaid : Type 0
GlobalsAreLaid = (p : Program) (globals : List ℕ) → HasAlignments p → AreLaid p globals

-- each byte of a global stands at an address that the block of its region holds
abbrev pub GlobalsAreHeld : Type 0
GlobalsAreHeld =
    (p : Program) (f : Final) (s : Sizes) (b : Board) → IsBoard b → Fits p f s b → HasAlignments p → (x byte : ℕ) → byte < global_size p x →
    ((r : ℕ) → region_with f x ≡ Some r → HoldsAddress p f (plan_of p f s b) (ForRegion r) (global_address p f (plan_of p f s b) x + byte))
    × (region_with f x ≡ None → has f.unwritten x ≡ true → HoldsAddress p f (plan_of p f s b) ForUnwritten (global_address p f (plan_of p f s b) x + byte))

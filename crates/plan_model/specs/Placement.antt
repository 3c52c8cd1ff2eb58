-- Where all blocks of an image lie on a board, and where the globals lie in them.
use Rattle.std.specs.Prelude.{ℕ, ◌+◌, ◌≤◌, length, map, get_or, Option, Some, None, position, unwrap_or, sum_by}
use Rattle.ir_model.specs.Resolved.{Program}
use Rattle.plan_model.specs.declared.graph.DataRegion.{DataRegion}
use Rattle.plan_model.specs.declared.graph.Final.{Final}
use Rattle.plan_model.specs.declared.plan.Board.{Board}
use Rattle.plan_model.specs.declared.plan.Sizes.{Sizes}
use Rattle.plan_model.specs.declared.plan.Spot.{Spot}
use Rattle.plan_model.specs.declared.plan.Plan.{Plan}
use Rattle.plan_model.specs.Lists.{numbers_below, has}
use Rattle.plan_model.specs.Regions.{region_at}
use Rattle.plan_model.specs.Blocks.{offset_in_region}
use Rattle.plan_model.specs.FlashPlacement.{tables_spot, code_spot, flash_needed}
use Rattle.plan_model.specs.RamBlocks.{RamUse, ForStack, ForMonitor, ForRegion, ForUnwritten}
use Rattle.plan_model.specs.RamPlacement.{Ram, ram_of, ram_needed, spot_for}

-- of a block that is not there
abbrev pub no_spot : Spot
no_spot = record { base = 0; size = 0 }

-- where the block for a use lies
abbrev pub placed_for : Ram → RamUse → Spot
placed_for m u = unwrap_or (spot_for m u) no_spot

-- where each block lies
unfoldable pub plan_of : Program → Final → Sizes → Board → Plan
plan_of p f s b =
    let ram : Ram = ram_of p f b in
    record {
      tables = tables_spot b.flash_base s;
      code = map (code_spot b.flash_base s) (numbers_below (length s.code));
      stack = placed_for ram ForStack;
      monitor = placed_for ram ForMonitor;
      regions = map (λ r. placed_for ram (ForRegion r)) (numbers_below (length f.regions));
      unwritten = spot_for ram ForUnwritten;
    }

-- the sums of the blocks are at most the sizes of the memories
pub record Fits (p : Program) (f : Final) (s : Sizes) (b : Board) : Type 0 where
  pub flash : flash_needed s ≤ b.flash_size
  pub ram : ram_needed p f b ≤ b.ram_size

-- ---- in a plan `l`

-- where a data region lies
abbrev pub region_spot : Plan → (region : ℕ) → Spot
region_spot l r = get_or l.regions r no_spot

-- where the code of a compartment lies
abbrev pub compartment_spot : Plan → (compartment : ℕ) → Spot
compartment_spot l c = get_or l.code c no_spot

-- the bytes of all blocks of flash
abbrev pub flash_used : Plan → ℕ
flash_used l = l.tables.size + sum_by (λ (s : Spot). s.size) l.code

-- the data region of a global, if it is in one
abbrev pub region_with : Final → (global : ℕ) → Option ℕ
region_with f x = position (λ (r : DataRegion). has r.globals x) f.regions

-- the address of a global of a data region, or of none
abbrev pub address_in : Program → Final → Plan → (global : ℕ) → Option ℕ → ℕ
address_in p f l x (Some r) = (region_spot l r).base + offset_in_region p (region_at f.regions r).globals x
address_in p f l x None = (unwrap_or l.unwritten no_spot).base + offset_in_region p f.unwritten x

-- the address of a global
unfoldable pub global_address : Program → Final → Plan → (global : ℕ) → ℕ
global_address p f l x = address_in p f l x (region_with f x)

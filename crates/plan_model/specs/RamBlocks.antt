-- The blocks of RAM: what they are for, and their sizes.
use Rattle.std.specs.Prelude.{ℕ, Bool, true, false, List, [], ◌∷◌, ◌++◌, length, map, nat_eq, nat_lt}
use Rattle.machine_devices.specs.Rules.{block_size}
use Rattle.ir_model.specs.Resolved.{Program}
use Rattle.plan_model.specs.declared.graph.DataRegion.{DataRegion}
use Rattle.plan_model.specs.declared.graph.Final.{Final}
use Rattle.plan_model.specs.Lists.{numbers_below, in_order}
use Rattle.plan_model.specs.Regions.{region_at}
use Rattle.plan_model.specs.Blocks.{block_size_for, region_bytes}

-- what a block is for
pub data RamUse : Type 0 where
  ForStack : RamUse
  ForMonitor : RamUse
  ForRegion : (region : ℕ) → RamUse
  ForUnwritten : RamUse

-- its bytes, and the power of two that holds them
pub record RamBlock : Type 0 where
  pub use_of : RamUse
  pub bytes : ℕ
  pub size : ℕ

-- of data regions and of the globals of none
abbrev pub holds_globals : RamUse → Bool
holds_globals (ForRegion r) = true
holds_globals ForUnwritten = true
holds_globals _ = false

-- for the same
abbrev pub same_use : RamUse → RamUse → Bool
same_use ForStack ForStack = true
same_use ForMonitor ForMonitor = true
same_use (ForRegion r) (ForRegion s) = nat_eq r s
same_use ForUnwritten ForUnwritten = true
same_use _ _ = false

-- a block that is used whole
abbrev pub full_block : RamUse → (size : ℕ) → RamBlock
full_block u n = record { use_of = u; bytes = n; size = n }

-- a block of globals
abbrev pub globals_block : Program → RamUse → (globals : List ℕ) → RamBlock
globals_block p u xs = record { use_of = u; bytes = region_bytes p xs; size = block_size_for (region_bytes p xs) }

-- that of a data region
abbrev pub region_block : Program → List DataRegion → (region : ℕ) → RamBlock
region_block p rs r = globals_block p (ForRegion r) (region_at rs r).globals

-- that of the globals of none, where there are any
abbrev pub unwritten_block : Program → (globals : List ℕ) → List RamBlock
unwritten_block p [] = []
unwritten_block p (x ∷ xs) = globals_block p ForUnwritten (x ∷ xs) ∷ []

-- the monitor's block, the data regions in order, and the globals of none
abbrev pub other_blocks : Program → Final → List RamBlock
other_blocks p f =
    full_block ForMonitor block_size
    ∷ (map (region_block p f.regions) (numbers_below (length f.regions)) ++ unwritten_block p f.unwritten)

-- the stack, and the others
unfoldable pub ram_blocks : Program → Final → (stack : ℕ) → List RamBlock
ram_blocks p f stack = full_block ForStack stack ∷ other_blocks p f

-- in falling order of size
abbrev pub falling : List RamBlock → List RamBlock
falling bs = in_order (λ (a b : RamBlock). nat_lt b.size a.size) bs

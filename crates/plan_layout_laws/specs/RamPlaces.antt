-- Where the blocks of RAM lie, for those that use a plan.
use Rattle.std.specs.Prelude.{◌≡◌, ℕ, ◌<◌, length, unwrap_or}
use Rattle.ir_model.specs.Resolved.{Program}
use Rattle.plan_model.specs.declared.graph.Final.{Final}
use Rattle.plan_model.specs.declared.plan.Board.{Board}
use Rattle.plan_model.specs.declared.plan.Sizes.{Sizes}
use Rattle.plan_model.specs.declared.plan.Spot.{Spot}
use Rattle.plan_model.specs.declared.plan.Plan.{Plan}
use Rattle.plan_model.specs.Boards.{IsBoard}
use Rattle.plan_model.specs.Blocks.{block_size_for, region_bytes}
use Rattle.plan_model.specs.Regions.{region_at}
use Rattle.plan_model.specs.RamBlocks.{RamUse, ForStack, ForMonitor, ForRegion, ForUnwritten}
use Rattle.plan_model.specs.Placement.{Fits, plan_of, region_spot, no_spot}
use Rattle.plan_layout_laws.specs.FlashLaws.{IsIn, IsAligned}
use Rattle.machine_devices.specs.Rules.{block_size}

-- the block for a use
abbrev pub block_for : Plan → RamUse → Spot
block_for l ForStack = l.stack
block_for l ForMonitor = l.monitor
block_for l (ForRegion r) = region_spot l r
block_for l ForUnwritten = unwrap_or l.unwritten no_spot

-- each block of RAM that is there lies in RAM, at a multiple of its size
abbrev pub RamIsInside : Type 0
RamIsInside = (p : Program) (f : Final) (s : Sizes) (b : Board) (u : RamUse) → IsBoard b → Fits p f s b → 0 < (block_for (plan_of p f s b) u).size
    → IsIn (block_for (plan_of p f s b) u) b.ram_base b.ram_size × IsAligned (block_for (plan_of p f s b) u)

-- what a plan has a block for
abbrev pub HasBlock : Final → RamUse → Type 0
HasBlock f ForStack = Unit {0}
HasBlock f ForMonitor = Unit {0}
HasBlock f (ForRegion r) = r < length f.regions
HasBlock f ForUnwritten = 0 < length f.unwritten

-- how large it is
abbrev pub block_bytes : Program → Final → Board → RamUse → ℕ
block_bytes p f b ForStack = b.stack
block_bytes p f b ForMonitor = block_size
block_bytes p f b (ForRegion r) = block_size_for (region_bytes p (region_at f.regions r).globals)
block_bytes p f b ForUnwritten = block_size_for (region_bytes p f.unwritten)

-- a plan has a block for each use
abbrev pub RamIsThere : Type 0
RamIsThere = (p : Program) (f : Final) (s : Sizes) (b : Board) (u : RamUse) → HasBlock f u → (block_for (plan_of p f s b) u).size ≡ block_bytes p f b u

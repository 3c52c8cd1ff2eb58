-- Which addresses the blocks of RAM hold, for those that use a plan.
use Rattle.std.specs.Prelude.{◌≢◌, ℕ, ◌+◌, ◌*◌, ◌/◌, ◌<◌, ◌≤◌, ◌&&◌, if◌then◌else◌, nat_lt, unwrap_or}
use Rattle.ir_model.specs.Resolved.{Program}
use Rattle.plan_model.specs.declared.graph.Final.{Final}
use Rattle.plan_model.specs.declared.plan.Board.{Board}
use Rattle.plan_model.specs.declared.plan.Sizes.{Sizes}
use Rattle.plan_model.specs.declared.plan.Spot.{Spot}
use Rattle.plan_model.specs.declared.plan.Plan.{Plan}
use Rattle.plan_model.specs.Blocks.{has_eighths, open_eighths, region_bytes}
use Rattle.plan_model.specs.Regions.{region_at}
use Rattle.plan_model.specs.RamBlocks.{RamUse, ForStack, ForMonitor, ForRegion, ForUnwritten}
use Rattle.plan_model.specs.Placement.{plan_of, region_spot, no_spot}

-- the bytes of a block's open eighths: from a block of 256 bytes on, the eighths that begin before the end of the bytes that it holds
abbrev pub open_bytes : (size bytes : ℕ) → ℕ
open_bytes size bytes = if has_eighths size && nat_lt (open_eighths size bytes) 8 then size / 8 * open_eighths size bytes else size

-- an address among the first `bytes` bytes of a block
abbrev pub IsAmong : Spot → (bytes address : ℕ) → Type 0
IsAmong s n x = (s.base ≤ x) × (x < s.base + n)

-- the block for a use holds an address: the stack and the monitor's block hold all of theirs, blocks of globals those that are
-- not taken out
abbrev pub HoldsAddress : Program → Final → Plan → RamUse → (address : ℕ) → Type 0
HoldsAddress p f l ForStack x = IsAmong l.stack l.stack.size x
HoldsAddress p f l ForMonitor x = IsAmong l.monitor l.monitor.size x
HoldsAddress p f l (ForRegion r) x = IsAmong (region_spot l r) (open_bytes (region_spot l r).size (region_bytes p (region_at f.regions r).globals)) x
HoldsAddress p f l ForUnwritten x = IsAmong (unwrap_or l.unwritten no_spot) (open_bytes (unwrap_or l.unwritten no_spot).size (region_bytes p f.unwritten)) x

-- no two blocks of RAM hold the same address
abbrev pub RamIsApart : Type 0
RamIsApart = (p : Program) (f : Final) (s : Sizes) (b : Board) (u v : RamUse) (address : ℕ) → u ≢ v
    → HoldsAddress p f (plan_of p f s b) u address → HoldsAddress p f (plan_of p f s b) v address → ⊥

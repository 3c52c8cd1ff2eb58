-- The places of the blocks of RAM. From the base of RAM on each block stands behind the one before it, by falling size; but a region's
-- block stands in the tail of another region's block where it has room there. A board may ask for the stack at the base; the others
-- then stand behind it.
use Rattle.std.specs.Prelude.{ℕ, ◌+◌, ◌*◌, ◌/◌, Bool, ◌&&◌, List, [], ◌∷◌, ◌++◌, map, get_or, set, Option, Some, None, position, find, option_map, option_and_then, max, if◌then◌else◌, nat_lt, nat_le}
use Rattle.std.specs.List.{fold}
use Rattle.ir_model.specs.Layout.{rounded_up}
use Rattle.ir_model.specs.Resolved.{Program}
use Rattle.plan_model.specs.declared.graph.DataRegion.{DataRegion}
use Rattle.plan_model.specs.declared.graph.Final.{Final}
use Rattle.plan_model.specs.declared.plan.Board.{Board}
use Rattle.plan_model.specs.declared.plan.Lowest.{Lowest}
use Rattle.plan_model.specs.declared.plan.Lowest.TheVariants.{Largest, Stack}
use Rattle.plan_model.specs.declared.plan.Spot.{Spot}
use Rattle.plan_model.specs.Choices.{first_of, first_greatest}
use Rattle.plan_model.specs.Regions.{region_at, users}
use Rattle.plan_model.specs.Blocks.{block_size_for, region_bytes, has_eighths, open_eighths}
use Rattle.plan_model.specs.RamBlocks.{RamUse, ForStack, RamBlock, holds_globals, same_use, full_block, other_blocks, ram_blocks, falling}

-- the end of a block whose subregions are taken out; another region may stand there
pub record Tail : Type 0 where
  pub from : ℕ
  pub to : ℕ

-- where a block lies
pub record PlacedBlock : Type 0 where
  pub use_of : RamUse
  pub spot : Spot

-- the bytes of the blocks outside tails, the tails, and what is placed
pub record Ram : Type 0 where
  pub used : ℕ
  pub tails : List Tail
  pub blocks : List PlacedBlock

-- ---- tails

-- of a tail that is not there
abbrev pub no_tail : Tail
no_tail = record { from = 0; to = 0 }

-- a block's own tail: its eighths behind the last that holds a byte, if there are any
abbrev pub tail_of : (base : ℕ) → RamBlock → List Tail
tail_of base b =
    if holds_globals b.use_of && (has_eighths b.size && nat_lt (open_eighths b.size b.bytes) 8)
    then record { from = base + b.size / 8 * open_eighths b.size b.bytes; to = base + b.size } ∷ []
    else []

-- a block of this size has room in a tail: it begins at the first multiple of its size in the tail, and ends no later than the tail
abbrev pub fits : (size : ℕ) → Tail → Bool
fits size t = nat_le (rounded_up t.from size + size) t.to

-- the first tail in which a block of globals fits
abbrev pub tail_for : List Tail → RamBlock → Option ℕ
tail_for ts b = if holds_globals b.use_of then position (fits b.size) ts else None

-- ---- one block after another; RAM begins at `ram`

-- a block at its base
abbrev pub spot_at : (base : ℕ) → RamBlock → PlacedBlock
spot_at base b = record { use_of = b.use_of; spot = record { base = base; size = b.size } }

-- a block behind those that were placed outside tails before it
abbrev pub with_block_behind : (ram : ℕ) → Ram → RamBlock → Ram
with_block_behind ram m b =
    record {
      used = m.used + b.size;
      tails = m.tails ++ tail_of (ram + m.used) b;
      blocks = m.blocks ++ spot_at (ram + m.used) b ∷ [];
    }

-- the base of a block in a tail
abbrev pub base_in : Tail → RamBlock → ℕ
base_in t b = rounded_up t.from b.size

-- a block in the tail of a number, which then begins at the block's end
abbrev pub with_block_in : Ram → (tail : ℕ) → Tail → RamBlock → Ram
with_block_in m k t b =
    record m {
      tails = set m.tails k (record t { from = base_in t b + b.size }) ++ tail_of (base_in t b) b;
      blocks = m.blocks ++ spot_at (base_in t b) b ∷ [];
    }

-- in the tail of this number, if there is one
abbrev pub with_block_by : (ram : ℕ) → Ram → RamBlock → Option ℕ → Ram
with_block_by ram m b None = with_block_behind ram m b
with_block_by ram m b (Some k) = with_block_in m k (get_or m.tails k no_tail) b

-- one block more
unfoldable pub with_block : (ram : ℕ) → Ram → RamBlock → Ram
with_block ram m b = with_block_by ram m b (tail_for m.tails b)

-- ---- all blocks

-- no block
abbrev pub empty_ram : Ram
empty_ram = record { used = 0; tails = []; blocks = [] }

-- the greatest of a size and the sizes of blocks
abbrev pub largest_with : (size : ℕ) → List RamBlock → ℕ
largest_with n bs = fold (λ most (b : RamBlock). max most b.size) n bs

-- the stack at the base, before the blocks `bs`: these stand from a multiple of the largest of all on, so that each is at a multiple
-- of its size, and the gap up to there is the first tail
abbrev pub stack_first : (ram stack : ℕ) → (bs : List RamBlock) → Ram
stack_first ram stack bs =
    record {
      used = largest_with stack bs;
      tails = record { from = ram + stack; to = ram + largest_with stack bs } ∷ [];
      blocks = spot_at ram (full_block ForStack stack) ∷ [];
    }

-- by the block that stands lowest
abbrev pub ram_by : Program → Final → Board → Lowest → Ram
ram_by p f b Largest = fold (with_block b.ram_base) empty_ram (falling (ram_blocks p f b.stack))
ram_by p f b Stack = fold (with_block b.ram_base) (stack_first b.ram_base b.stack (falling (other_blocks p f))) (falling (other_blocks p f))

-- the RAM of a board with all blocks
unfoldable pub ram_of : Program → Final → Board → Ram
ram_of p f b = ram_by p f b b.lowest

-- ---- what comes of it

-- where the block for a use lies, if there is one
abbrev pub spot_for : Ram → RamUse → Option Spot
spot_for m u = option_map (λ (b : PlacedBlock). b.spot) (find (λ (b : PlacedBlock). same_use b.use_of u) m.blocks)

-- the blocks fit where the sum of those outside tails is at most the size of RAM
abbrev pub ram_needed : Program → Final → Board → ℕ
ram_needed p f b = (ram_of p f b).used

-- the sizes of the data regions' blocks
abbrev pub region_sizes : Program → List DataRegion → List ℕ
region_sizes p rs = map (λ (r : DataRegion). block_size_for (region_bytes p r.globals)) rs

-- the compartment that a refusal names, if there is one: the lowest user of that data region whose block is largest, of several the first
abbrev pub ram_named : Program → Final → Option ℕ
ram_named p f = option_and_then (λ r. first_of (users (region_at f.regions r))) (first_greatest (region_sizes p f.regions))

-- Beyond the program's claim: only laws, proofs and functions inside the tool cite this file.
-- The blocks, tails and RAM of the code as the definitions see them.
use Rattle.std.specs.Prelude.{ℕ, List, map}
use Rattle.std.specs.List.{fold}
use Rattle.plan_model.specs.RamBlocks.{RamUse, RamBlock, ForStack, ForMonitor, ForRegion, ForUnwritten}
use Rattle.plan_model.specs.RamPlacement as definition
use Rattle.plan_layout.specs.declared.ram.Purpose.{Purpose}
use Rattle.plan_layout.specs.declared.ram.Purpose.TheVariants.{Stack, Monitor, Region, Unwritten}
use Rattle.plan_layout.specs.declared.ram.UsedBlock.{UsedBlock}
use Rattle.plan_layout.specs.declared.ram.Tail.{Tail}
use Rattle.plan_layout.specs.declared.filled.Located.{Located}
use Rattle.plan_layout.specs.declared.filled.Filled.{Filled}

abbrev pub use_seen : Purpose → RamUse
use_seen Stack = ForStack
use_seen Monitor = ForMonitor
use_seen (Region r) = ForRegion r
use_seen Unwritten = ForUnwritten

abbrev pub block_seen : UsedBlock → RamBlock
block_seen b = record { use_of = use_seen b.purpose; bytes = b.bytes; size = b.size }

abbrev pub tail_seen : Tail → definition.Tail
tail_seen t = record { from = t.from; to = t.to }

abbrev pub located_seen : Located → definition.PlacedBlock
located_seen l = record { use_of = use_seen l.purpose; spot = l.spot }

abbrev pub ram_seen : Filled → definition.Ram
ram_seen m = record { used = m.used; tails = map tail_seen m.tails.items; blocks = map located_seen m.blocks.items }

-- RAM with these blocks behind those that it has
abbrev pub filled_by : (ram : ℕ) → definition.Ram → List RamBlock → definition.Ram
filled_by ram m bs = fold (definition.with_block ram) m bs

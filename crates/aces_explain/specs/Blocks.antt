-- The blocks of a memory as they are told: the largest first, each with what it is for.
use Rattle.std.specs.Prelude.{ℕ, ◌-◌, List, ◌++◌, length, map, flat_map, get_or, if◌then◌else◌, nat_eq, nat_lt, codes}
use Rattle.std.specs.Fmt.{decimal}
use Rattle.machine_lines.specs.Lines.{line_feed}
use Rattle.ir_model.specs.Plain.{PlainFirmware}
use Rattle.ir_model.specs.Resolved.{Program}
use Rattle.plan_model.specs.declared.graph.Final.{Final}
use Rattle.plan_model.specs.declared.plan.Sizes.{Sizes}
use Rattle.plan_model.specs.Lists.{numbers_below, in_order}
use Rattle.plan_model.specs.Regions.{region_at}
use Rattle.plan_model.specs.RamBlocks.{RamUse, ForStack, ForMonitor, ForRegion, ForUnwritten, RamBlock, ram_blocks, falling}
use Rattle.plan_model.specs.FlashPlacement.{flash_blocks}
use Rattle.plan_report.specs.Names.{global_name, spaced}
use Rattle.aces_explain.specs.declared.flash.FlashBlock.{FlashBlock}

abbrev pub block_text : (size : ℕ) → (text : List ℕ) → List ℕ
block_text size text = codes "block " ++ decimal size ++ codes " for " ++ text ++ line_feed

-- ---- RAM

-- the names of the globals of a block, and how many of its bytes are used
abbrev pub globals_text : PlainFirmware → (word : List ℕ) → (globals : List ℕ) → (bytes : ℕ) → List ℕ
globals_text w word xs bytes = word ++ spaced (map (global_name w) xs) ++ codes ", " ++ decimal bytes ++ codes " bytes"

-- what a block is for, by its use and the bytes that are used
abbrev pub use_text : PlainFirmware → Final → RamUse → (bytes : ℕ) → List ℕ
use_text w f ForStack bytes = codes "stack"
use_text w f ForMonitor bytes = codes "monitor"
use_text w f (ForRegion r) bytes = globals_text w (codes "data") (region_at f.regions r).globals bytes
use_text w f ForUnwritten bytes = globals_text w (codes "unwritten") f.unwritten bytes

abbrev pub ram_line : PlainFirmware → Final → RamBlock → List ℕ
ram_line w f b = block_text b.size (use_text w f b.use_of b.bytes)

abbrev pub ram_lines : PlainFirmware → Program → Final → (stack : ℕ) → List ℕ
ram_lines w p f stack = flat_map (ram_line w f) (falling (ram_blocks p f stack))

-- ---- flash

-- the block of a number: 0 of the tables', and one more than the compartment's of a block of code
abbrev pub numbered_at : (sizes : List ℕ) → (number : ℕ) → FlashBlock
numbered_at sizes k = record { number = k; size = get_or sizes k 0 }

abbrev pub numbered : (sizes : List ℕ) → List FlashBlock
numbered sizes = map (numbered_at sizes) (numbers_below (length sizes))

-- the blocks in falling order of size
abbrev pub falling_flash : List FlashBlock → List FlashBlock
falling_flash bs = in_order (λ (a b : FlashBlock). nat_lt b.size a.size) bs

-- what the block of a number is for
abbrev pub flash_use : (number : ℕ) → List ℕ
flash_use k = if nat_eq k 0 then codes "tables" else codes "code of compartment " ++ decimal (k - 1)

abbrev pub flash_line : FlashBlock → List ℕ
flash_line b = block_text b.size (flash_use b.number)

abbrev pub flash_lines : Sizes → List ℕ
flash_lines s = flat_map flash_line (falling_flash (numbered (flash_blocks s)))

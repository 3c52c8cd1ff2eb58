-- Beyond the program's claim: only laws, proofs and functions inside the tool cite this file.
-- Flash that holds the bytes of instructions.
use Rattle.std.specs.Prelude.{◌≡◌, ℕ, ◌+◌, ◌<◌, ◌≤◌, List, length}
use Rattle.std.proofs.Math.ListN.{get_or}
use Rattle.machine_thumb.specs.Bytes.{code_bytes, EachInTable}
use Rattle.machine_thumb.specs.declared.table.Instr.{Instr}
use Rattle.machine_devices.specs.declared.image.Image.{Image}
use Rattle.machine_devices.specs.Rules.{ObeysRules}
use Rattle.machine_model.specs.Code.{CodeIn}

-- flash holds these bytes from an offset on
pub record FlashHasBytes (i : Image) (offset : ℕ) (bytes : List ℕ) : Type 0 where
  pub fits : offset + length bytes ≤ length i.flash
  pub holds : (k : ℕ) → k < length bytes → get_or i.flash (offset + k) 0 ≡ get_or bytes k 0

-- where flash holds the bytes of instructions, they stand there
abbrev pub BytesAreCode : Type 0
BytesAreCode = (i : Image) (offset : ℕ) (xs : List Instr) → ObeysRules i → EachInTable xs → FlashHasBytes i offset (code_bytes xs) → CodeIn i (i.flash_base + offset) xs

-- Beyond the program's claim: only laws, proofs and functions inside the tool cite this file.
-- What is decoded of flash.
use Rattle.std.specs.Prelude.{◌≡◌, ℕ, suc, ◌+◌, ◌-◌, ◌*◌, ◌%◌, ◌≤◌, List, [], ◌∷◌, length, Option, IfSome}
use Rattle.base_words.specs.Bytes.{read}
use Rattle.machine_thumb.specs.Table.{Encodes, read_code, width_of}
use Rattle.machine_devices.specs.declared.image.Image.{Image}
use Rattle.machine_emulator.specs.declared.flash_code.Decoded.{Decoded}
use Rattle.machine_emulator.specs.declared.flash_code.FlashCode.{FlashCode}

-- the instruction whose halfwords begin at a place of flash, and how many bytes they are
pub record IsDecoded (flash : List ℕ) (o : ℕ) (x : Decoded) : Type 0 where
  pub room : o + 4 ≤ length flash
  pub encodes : Encodes (read_code (read 2 o flash) (read 2 (o + 2) flash)) x.instr
  pub size : x.size ≡ width_of (read_code (read 2 o flash) (read 2 (o + 2) flash))

-- what is there at the number of a halfword begins with this halfword; the first has this number
abbrev pub EachDecoded : (flash : List ℕ) → (first : ℕ) → List (Option Decoded) → Type 0
EachDecoded flash k [] = Unit {0}
EachDecoded flash k (o ∷ os) = IfSome o (λ x. IsDecoded flash (2 * k) x) × EachDecoded flash (suc k) os

-- what was decoded of an image
pub record IsCodeOf (i : Image) (c : FlashCode) : Type 0 where
  pub base : c.base ≡ i.flash_base
  pub even : c.base % 2 ≡ 0
  pub each : EachDecoded i.flash 0 c.instructions.items

-- an instruction that stands in flash at an address
pub record StandsIn (i : Image) (a : ℕ) (x : Decoded) : Type 0 where
  pub above : i.flash_base ≤ a
  pub there : IsDecoded i.flash (a - i.flash_base) x

-- Beyond the program's claim: only laws, proofs and functions inside the tool cite this file.
-- What holds of the instruction table as a whole.
use Rattle.std.specs.Prelude.{◌≡◌, ◌≢◌, ℕ, ◌+◌, ◌*◌, ◌/◌, ◌%◌, ◌^◌, ◌<◌, ◌≤◌, ◌⊎◌, Some}
use Rattle.machine_thumb.specs.Table.{InTable, Encodes, encode, move_pair}
use Rattle.machine_thumb.specs.Decoded.{decoded_code}
use Rattle.machine_thumb.specs.declared.table.Code.{Code}
use Rattle.machine_thumb.specs.declared.table.Code.TheVariants.{Half, Pair}
use Rattle.machine_thumb.specs.declared.table.Instr.{Instr}

-- no halfwords are related to two instructions
abbrev pub IsUnambiguous : Type 0
IsUnambiguous = (code : Code) (i j : Instr) → Encodes code i → Encodes code j → i ≡ j

-- an instruction is decoded from its halfwords, whatever halfword follows a single one
abbrev pub IsRoundTrip : Type 0
IsRoundTrip = (i : Instr) (next : ℕ) → InTable i → decoded_code (encode i) next ≡ Some i

-- the first halfword alone says whether there is a second
abbrev pub IsSelfDelimiting : Code → Type 0
IsSelfDelimiting (Half h) = h < 0xE800
IsSelfDelimiting (Pair h k) = (0xE800 ≤ h) × (h < 2 ^ 16) × (k < 2 ^ 16)

abbrev pub ShowsItsLength : Type 0
ShowsItsLength = (i : Instr) → InTable i → IsSelfDelimiting (encode i)

-- the halfwords are those of no instruction
abbrev pub IsUndefined : Code → Type 0
IsUndefined code = (i : Instr) → Encodes code i → ⊥

-- the stack pointer or the program counter
abbrev pub IsSpecial : ℕ → Type 0
IsSpecial r = (r ≡ 13) ⊎ (r ≡ 15)

-- what matches the bits of a form and yet is no instruction of the table
pub record LeavesOut : Type 0 where
  pub undefined_instruction : (imm8 : ℕ) → imm8 < 256 → IsUndefined (Half (0xDE00 + imm8))
  pub push_nothing : IsUndefined (Half 0xB400)
  pub pop_nothing : IsUndefined (Half 0xBC00)
  pub store_nothing : (n : ℕ) → n < 8 → IsUndefined (Half (0xC000 + n * 256))
  pub load_nothing : (n : ℕ) → n < 8 → IsUndefined (Half (0xC800 + n * 256))
  pub store_base_above : (n list : ℕ) → n < 8 → list < 256 → list / 2 ^ n % 2 ≡ 1 → list % 2 ^ n ≢ 0 →
      IsUndefined (Half (0xC000 + n * 256 + list))
  pub high_fifteen : (op m d : ℕ) → op < 3 → m < 16 → d < 16 → (m ≡ 15) ⊎ (d ≡ 15) →
      IsUndefined (Half (0x4400 + op * 256 + d / 8 * 128 + m * 8 + d % 8))
  pub exchange_fifteen : (op : ℕ) → op < 2 → IsUndefined (Half (0x4700 + op * 128 + 15 * 8))
  pub compare_low : (m d : ℕ) → m < 8 → d < 8 → IsUndefined (Half (0x4500 + m * 8 + d))
  pub move_special : (d value : ℕ) → IsSpecial d → value < 2 ^ 16 →
      IsUndefined (move_pair 0xF240 d value) × IsUndefined (move_pair 0xF2C0 d value)
  pub divide_special : (n d m : ℕ) → n < 16 → d < 16 → m < 16 → IsSpecial n ⊎ IsSpecial d ⊎ IsSpecial m →
      IsUndefined (Pair (0xFBB0 + n) (0xF0F0 + d * 256 + m)) ×
      IsUndefined (Pair (0xFB90 + n) (0xF0F0 + d * 256 + m))
  pub write_special : (n s : ℕ) → IsSpecial n → s < 256 → IsUndefined (Pair (0xF380 + n) (0x8800 + s))
  pub read_special : (d s : ℕ) → IsSpecial d → s < 256 → IsUndefined (Pair 0xF3EF (0x8000 + d * 256 + s))

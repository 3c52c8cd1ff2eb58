-- Beyond the program's claim: only laws, proofs and functions inside the tool cite this file.
-- The first 4,096 bytes of flash for the sample's tables.
use Rattle.std.specs.Prelude.{◌≡◌, ℕ, ◌+◌, ◌/◌, ◌%◌, ◌^◌, List, [], ◌∷◌, true, false, length, Some}
use Rattle.base_words.specs.Bytes.{read}
use Rattle.machine_thumb.specs.declared.table.Instr.TheVariants.{MoveWide, MoveTop}
use Rattle.machine_thumb.specs.Decoded.{decoded}
use Rattle.machine_model.specs.Stack.{words_at}
use Rattle.monitor_program.specs.Page.{page, main_entry_at, main_compartment_at}
use Rattle.example_monitor.specs.Sample.{sample}

abbrev pub bytes : List ℕ
bytes = page (sample 3 false)

abbrev pub closed_bytes : List ℕ
closed_bytes = page (sample 11 true)

-- the number that MOVW and MOVT put together
pub record PutTogether (flash : List ℕ) (place register number : ℕ) : Type 0 where
  pub low : decoded (read 2 place flash) (read 2 (place + 2) flash) ≡ Some (MoveWide register (number % 2 ^ 16))
  pub high : decoded (read 2 (place + 4) flash) (read 2 (place + 6) flash) ≡ Some (MoveTop register (number / 2 ^ 16))

pub record ComputesPage : Type 0 where
  pub size : length bytes ≡ 4096
  pub closed_size : length closed_bytes ≡ 4096
  -- the end of the monitor's block, reset at 64, MemManage at 64 + 466 + 1286 and SVC at 64 + 466
  pub vectors :
      words_at 16 0 bytes
      ≡ 0x20000400 ∷ 0x08000041 ∷ 0 ∷ 0 ∷ 0x08000719 ∷ 0 ∷ 0 ∷ 0 ∷ 0 ∷ 0 ∷ 0 ∷ 0x08000213 ∷ 0 ∷ 0 ∷ 0 ∷ 0 ∷ []
  -- compartment 0 and entry 0x08002001 of `main`
  pub main_compartment : PutTogether bytes main_compartment_at 5 0
  pub main_entry : PutTogether bytes main_entry_at 7 0x08002001
  -- SVC #1, and erased flash behind it
  pub stub : read 2 0x93C bytes ≡ 0xDF01
  pub erased : read 4 0x93E bytes ≡ 0xFFFFFFFF
  pub last : read 4 4092 bytes ≡ 0xFFFFFFFF

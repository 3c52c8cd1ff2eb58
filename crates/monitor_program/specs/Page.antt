-- The first 4,096 bytes of flash: vectors, the monitor's code, and the leave stub.
use Rattle.std.specs.Prelude.{ℕ, pos, ◌+◌, ◌-◌, ◌/◌, ◌%◌, ◌^◌, List, [], ◌∷◌, ◌++◌, length, replicate}
use Rattle.base_words.specs.Arithmetic.{word}
use Rattle.machine_thumb.specs.declared.table.Instr.{Instr}
use Rattle.machine_thumb.specs.declared.table.Instr.TheVariants.{CallBranch}
use Rattle.machine_thumb.specs.Bytes.{code_bytes}
use Rattle.monitor_steps.specs.Code.{code, code_length}
use Rattle.monitor_model.specs.declared.tables.Tables.{Tables}
use Rattle.monitor_model.specs.Layout.{page_size}
use Rattle.monitor_program.specs.Constants.{Constants, constants_with}
use Rattle.monitor_program.specs.Svc.{svc}
use Rattle.monitor_program.specs.MemFault.{memfault}
use Rattle.monitor_program.specs.Reset.{reset}

-- ---- where each part begins, in bytes from the base of flash

-- the sixteen vectors
abbrev pub vectors_size : ℕ
vectors_size = 64

-- then start-up, the handlers of SVC and of MemManage, and the stub
abbrev pub reset_offset : ℕ
reset_offset = vectors_size

abbrev pub svc_offset : Constants → ℕ
svc_offset c = reset_offset + code_length (reset c)

abbrev pub memfault_offset : Constants → ℕ
memfault_offset c = svc_offset c + code_length (svc c)

abbrev pub stub_offset : Constants → ℕ
stub_offset c = memfault_offset c + code_length (memfault c)

-- no number in a list changes the length of its code, so the place of the stub is known before the lists
abbrev pub stub_address : Tables → ℕ
stub_address t = t.base + stub_offset (constants_with 0 t)

-- the constants of the tables, with the stub's address
abbrev pub constants : Tables → Constants
constants t = constants_with (stub_address t) t

-- ---- the bytes

-- SVC #1: a function that returns to it leaves its compartment
abbrev pub leave_stub : List Instr
leave_stub = CallBranch 0 1 (pos 0) ∷ []

-- the three lists and the stub, one behind the other
abbrev pub monitor_code : Constants → List Instr
monitor_code c = code (reset c) ++ (code (svc c) ++ (code (memfault c) ++ leave_stub))

-- the address of a handler, with bit 0 set for the Thumb state (B1.5.3)
abbrev pub vector_to : Tables → (offset : ℕ) → ℕ
vector_to t offset = word (t.base + offset + 1)

-- word 0 is the first value of MSP, the end of the monitor's block; 1 is reset, 4 MemManage, 11 SVC (B1.5.2)
abbrev pub vectors : Tables → Constants → List ℕ
vectors t c =
    c.block_end
    ∷ vector_to t reset_offset
    ∷ 0
    ∷ 0
    ∷ vector_to t (memfault_offset c)
    ∷ (replicate 6 0 ++ (vector_to t (svc_offset c) ∷ replicate 4 0))

-- the lowest byte first
abbrev pub bytes_of_words : List ℕ → List ℕ
bytes_of_words [] = []
bytes_of_words (w ∷ ws) = w % 256 ∷ w / 2 ^ 8 % 256 ∷ w / 2 ^ 16 % 256 ∷ w / 2 ^ 24 ∷ bytes_of_words ws

-- what is not erased
abbrev pub used_bytes : Tables → Constants → List ℕ
used_bytes t c = bytes_of_words (vectors t c) ++ code_bytes (monitor_code c)

-- erased flash reads as ones
abbrev pub filled_up : (size : ℕ) → List ℕ → List ℕ
filled_up size bytes = bytes ++ replicate (size - length bytes) 0xFF

-- the page of these tables
unfoldable pub page : Tables → List ℕ
page t = filled_up page_size (used_bytes t (constants t))

-- ---- the two words of start-up

-- the offsets at which MOVW and MOVT have the compartment of `main`, and its entry; they stand first in `reset`, in every image
abbrev pub main_compartment_at : ℕ
main_compartment_at = reset_offset

abbrev pub main_entry_at : ℕ
main_entry_at = reset_offset + 8

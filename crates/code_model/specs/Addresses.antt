-- The code of addresses, and of loads and stores through them.
use Rattle.std.specs.Prelude.{ℕ, ◌+◌, ◌/◌, List, [], ◌∷◌, ◌++◌, nat_le, if◌then◌else◌}
use Rattle.std.proofs.Math.ListN.{get_or}
use Rattle.machine_thumb.specs.declared.table.Instr.{Instr}
use Rattle.machine_thumb.specs.declared.table.Instr.TheVariants.{AddSubRegister, DataRegister, TransferImmediate}
use Rattle.ir_model.specs.Types.{PlainType, U8, U16}
use Rattle.ir_model.specs.Resolved.{Named, TheGlobal, ThePeriph, TheLocal}
use Rattle.code_model.specs.declared.places.Places.{Places}
use Rattle.code_model.specs.FrameShape.{FrameShape}
use Rattle.code_model.specs.Places.{global_address, window_address, entry_address}
use Rattle.code_model.specs.Words.{load_home, save, word_into, home_address}
use Rattle.ir_model.specs.Typing.{object_limit}

-- into r0
abbrev pub named_into : FrameShape → Places → Named → List Instr
named_into s q (TheGlobal x) = word_into 0 (global_address q x)
named_into s q (ThePeriph w) = word_into 0 (window_address q w)
named_into s q (TheLocal l) = home_address 0 (get_or s.starts l 0 / 4) ∷ []

abbrev pub addr_code : FrameShape → Places → (to : ℕ) → Named → List Instr
addr_code s q to of = named_into s q of ++ save to ∷ []

-- the address of a function has bit 0 set (A2.3.1)
abbrev pub faddr_code : Places → (to func : ℕ) → List Instr
faddr_code q to f = word_into 0 (entry_address q f + 1) ++ save to ∷ []

-- the size by which an index is multiplied. No object is larger than the limit, so a pointer to a larger element is always null
abbrev pub scale_of : (size : ℕ) → ℕ
scale_of n = if nat_le n object_limit then n else 0

-- MULS r1, r2; ADDS r0, r0, r1
abbrev pub elem_code : (to base index size : ℕ) → List Instr
elem_code to base index n =
    (load_home 0 base ∷ load_home 1 index ∷ word_into 2 (scale_of n)) ++ DataRegister 13 2 1 ∷ AddSubRegister 0 1 0 0 ∷ save to ∷ []

-- ADDS r0, r0, r1
abbrev pub field_code : (to base offset : ℕ) → List Instr
field_code to base n = (load_home 0 base ∷ word_into 1 n) ++ AddSubRegister 0 1 0 0 ∷ save to ∷ []

-- LDRB, LDRH or LDR r0, [r1, #0]
abbrev pub load_at : PlainType → Instr
load_at U8 = TransferImmediate 3 0 1 0
load_at U16 = TransferImmediate 5 0 1 0
load_at _ = TransferImmediate 1 0 1 0

-- STRB, STRH or STR r0, [r1, #0]
abbrev pub store_at : PlainType → Instr
store_at U8 = TransferImmediate 2 0 1 0
store_at U16 = TransferImmediate 4 0 1 0
store_at _ = TransferImmediate 0 0 1 0

abbrev pub load_code : (to from : ℕ) → PlainType → List Instr
load_code to from t = load_home 1 from ∷ load_at t ∷ save to ∷ []

abbrev pub store_code : (to from : ℕ) → PlainType → List Instr
store_code to from t = load_home 1 to ∷ load_home 0 from ∷ store_at t ∷ []

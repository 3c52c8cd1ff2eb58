-- The instructions that all templates are made of. A frame's words are numbered from the stack pointer on: word k of it is
-- register k of the function, where it has that register. Code uses r0 to r3 and r12 alone, and nothing is kept in them
-- between two instructions of the firmware.
use Rattle.std.specs.Prelude.{ℕ, ◌/◌, ◌%◌, ◌^◌, List, [], ◌∷◌, map, Option, Some, None}
use Rattle.machine_thumb.specs.declared.table.Instr.{Instr}
use Rattle.machine_thumb.specs.declared.table.Instr.TheVariants.{DataImmediate, StackRelative, MoveWide, MoveTop}
use Rattle.machine_thumb_asm.specs.declared.item.Item.{Item}
use Rattle.machine_thumb_asm.specs.declared.item.Item.TheVariants.{Plain}

-- LDR t, [SP, #4 k]
abbrev pub load_home : (t k : ℕ) → Instr
load_home t k = StackRelative 1 t 0 k

-- STR t, [SP, #4 k]
abbrev pub store_home : (t k : ℕ) → Instr
store_home t k = StackRelative 0 t 0 k

-- r0 into a register of the function
abbrev pub save : ℕ → Instr
save k = store_home 0 k

-- where a result is kept, if it is
abbrev pub save_code : Option ℕ → List Instr
save_code None = []
save_code (Some k) = save k ∷ []

-- ADD d, SP, #4 k: the address of a word of the frame
abbrev pub home_address : (d k : ℕ) → Instr
home_address d k = StackRelative 2 0 d k

-- MOVS d, #n
abbrev pub byte_into : (d n : ℕ) → Instr
byte_into d n = DataImmediate 0 d n

-- MOVW and MOVT: a word into a register
abbrev pub word_into : (d n : ℕ) → List Instr
word_into d n = MoveWide d (n % 2 ^ 16) ∷ MoveTop d (n / 2 ^ 16) ∷ []

-- instructions as pieces of an assembly
abbrev pub plain : List Instr → List Item
plain xs = map Plain xs

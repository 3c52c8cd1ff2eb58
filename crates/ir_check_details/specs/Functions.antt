-- The lines of a function: the instruction or the binding whose types do not fit; and those of `main`.
use Rattle.std.specs.Prelude.{ℕ, List, [], ◌∷◌, ◌++◌, length, codes, nat_eq, Option, Some, None, slice_get, if◌then◌else◌}
use Rattle.ir_model.specs.declared.firmware.Inst.{Inst}
use Rattle.ir_model.specs.declared.firmware.Block.{Block}
use Rattle.ir_model.specs.Types.{PlainResult, nothing, gives, is_register_type}
use Rattle.ir_model.specs.Plain.{PlainBinding, PlainFunc, PlainFirmware}
use Rattle.ir_model.specs.Resolve.{main_name, signature_of}
use Rattle.ir_check_details.specs.Words.{found_typed, expected}
use Rattle.ir_check_details.specs.Found.{func_in, block_named}
use Rattle.ir_check_details.specs.Calls.{inst_lines, term_lines}

-- ---- instructions and the ends of blocks

-- the instruction of a number, or the block's end, which has the number behind the last
abbrev pub stand_lines : PlainFirmware → PlainFunc → Block → (number : ℕ) → Option Inst → List ℕ
stand_lines w f b k (Some i) = inst_lines w f i
stand_lines w f b k None = if nat_eq k (length b.insts) then term_lines f b.term else []

abbrev pub block_lines : PlainFirmware → PlainFunc → (number : ℕ) → Option Block → List ℕ
block_lines w f k None = []
block_lines w f k (Some b) = stand_lines w f b k (slice_get b.insts k)

abbrev pub place_lines : PlainFirmware → (block : List ℕ) → (number : ℕ) → Option PlainFunc → List ℕ
place_lines w l k None = []
place_lines w l k (Some f) = block_lines w f k (block_named f.blocks l)

-- ---- parameters, results and registers

-- the first binding that is of no register type
abbrev pub no_register : List PlainBinding → Option PlainBinding
no_register [] = None
no_register (s ∷ ss) = if is_register_type s.ty then no_register ss else Some s

abbrev pub binding_lines : PlainBinding → List ℕ
binding_lines s = found_typed s.name s.ty ++ expected (codes "u32, a pointer or a function")

-- a result stands like a binding with the name `result`
abbrev pub result_binding : PlainResult → List PlainBinding
result_binding nothing = []
result_binding (gives t) = record { name = codes "result"; ty = t } ∷ []

abbrev pub odd_binding_lines : Option PlainBinding → List ℕ
odd_binding_lines None = []
odd_binding_lines (Some s) = binding_lines s

-- the parameters, the result and the registers in this order
abbrev pub bindings_of : PlainFunc → List PlainBinding
bindings_of f = f.params ++ result_binding f.outcome ++ f.regs

abbrev pub func_lines : Option PlainFunc → List ℕ
func_lines None = []
func_lines (Some f) = odd_binding_lines (no_register (bindings_of f))

-- ---- `main`

abbrev pub found_main : Option PlainFunc → List ℕ
found_main None = []
found_main (Some f) = found_typed main_name (signature_of f)

abbrev pub main_lines : PlainFirmware → List ℕ
main_lines w = found_main (func_in w.files main_name) ++ expected (codes "main: fn ( )")

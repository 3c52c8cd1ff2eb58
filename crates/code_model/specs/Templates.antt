-- The code of each instruction and of each block's end, as pieces of an assembly. Block b of the function is label first + b.
use Rattle.std.specs.Prelude.{ℕ, ◌+◌, pos, List, [], ◌∷◌, ◌++◌, Option}
use Rattle.machine_thumb.specs.declared.table.Instr.{Instr}
use Rattle.machine_thumb.specs.declared.table.Instr.TheVariants.{DataImmediate, BranchConditional}
use Rattle.machine_thumb_asm.specs.declared.item.BranchKind.TheVariants.{Long}
use Rattle.machine_thumb_asm.specs.declared.item.Label.{Label}
use Rattle.machine_thumb_asm.specs.declared.item.Item.{Item}
use Rattle.machine_thumb_asm.specs.declared.item.Item.TheVariants.{Branch}
use Rattle.ir_model.specs.Resolved as ir
use Rattle.ir_model.specs.Resolved.{NumberedInst, NumberedTerm, NumberedFunc}
use Rattle.ir_model.specs.Signatures.{row_length}
use Rattle.code_model.specs.declared.places.Places.{Places}
use Rattle.code_model.specs.FrameShape.{frame_shape}
use Rattle.code_model.specs.Places.{Lend, entry_address, lends_among}
use Rattle.code_model.specs.Words.{load_home, plain}
use Rattle.code_model.specs.Numbers.{const_code, move_code, bin_code}
use Rattle.code_model.specs.Comparisons.{cmp_code}
use Rattle.code_model.specs.Addresses.{addr_code, faddr_code, elem_code, field_code, load_code, store_code}
use Rattle.code_model.specs.Calls.{call_items, icall_items}
use Rattle.code_model.specs.Entry.{enter_code, leave_code}

-- the lent locals of a function
abbrev pub lends_of : NumberedFunc → Places → List Lend
lends_of g q = lends_among (frame_shape g).starts q.lends

abbrev pub entry_items : NumberedFunc → Places → List Item
entry_items g q = plain (enter_code (row_length g.params) (frame_shape g).words (lends_of g q))

-- an instruction at an address; `site` is the site of a call that may go to another compartment
unfoldable pub inst_items : NumberedFunc → Places → (at : ℕ) → (site : Option ℕ) → NumberedInst → List Item
inst_items g q at s (ir.Const to v) = plain (const_code to v)
inst_items g q at s (ir.Move to from) = plain (move_code to from)
inst_items g q at s (ir.Bin op to a b) = plain (bin_code op to a b)
inst_items g q at s (ir.Cmp op to a b) = plain (cmp_code op to a b)
inst_items g q at s (ir.Addr to of) = plain (addr_code (frame_shape g) q to of)
inst_items g q at s (ir.FAddr to f) = plain (faddr_code q to f)
inst_items g q at s (ir.Elem to base index size) = plain (elem_code to base index size)
inst_items g q at s (ir.Field to base offset) = plain (field_code to base offset)
inst_items g q at s (ir.Load to from t) = plain (load_code to from t)
inst_items g q at s (ir.Store to from t) = plain (store_code to from t)
inst_items g q at s (ir.Call to f args) = call_items at (entry_address q f) s to args
inst_items g q at s (ir.ICall to h args) = icall_items s to h args

-- B T4
abbrev pub jump_items : (first block : ℕ) → List Item
jump_items first b = let l : Label = record { number = first + b } in Branch Long l ∷ []

-- LDR r0; CMP r0, #0; BEQ over the next branch
abbrev pub test_code : (on : ℕ) → List Instr
test_code on = load_home 0 on ∷ DataImmediate 1 0 0 ∷ BranchConditional 0 (pos 2) ∷ []

unfoldable pub term_items : NumberedFunc → Places → (first : ℕ) → NumberedTerm → List Item
term_items g q first (ir.Jump b) = jump_items first b
term_items g q first (ir.Branch on a b) = plain (test_code on) ++ (jump_items first a ++ jump_items first b)
term_items g q first (ir.Ret r) = plain (leave_code (frame_shape g).words (lends_of g q) r)

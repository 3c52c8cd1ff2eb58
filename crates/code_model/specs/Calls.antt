-- The code of calls: arguments into r0 to r3, the call, and r0 into the register that keeps the result. A call that may go to
-- another compartment is an SVC #0 with the callee in r12, and behind it a halfword with the number of its site.
use Rattle.std.specs.Prelude.{ℕ, ℤ, suc, ◌+◌, List, [], ◌∷◌, ◌++◌, Option, Some, None}
use Rattle.machine_thumb.specs.declared.table.Instr.{Instr}
use Rattle.machine_thumb.specs.declared.table.Instr.TheVariants.{HighRegister, BranchExchange, BranchLink}
use Rattle.machine_thumb.specs.Table.{svc}
use Rattle.machine_thumb_asm.specs.declared.item.Item.{Item}
use Rattle.machine_thumb_asm.specs.declared.item.Item.TheVariants.{Half}
use Rattle.machine_thumb_asm.specs.Assembly.{total}
use Rattle.machine_thumb_asm.specs.Finished.{distance}
use Rattle.code_model.specs.Words.{load_home, save_code, word_into, plain}

-- LDR of these words of the frame into registers from this one on
abbrev pub args_code : (register : ℕ) → List ℕ → List Instr
args_code r [] = []
args_code r (a ∷ more) = load_home r a ∷ args_code (suc r) more

-- BL
abbrev pub call_code : (args : List ℕ) → ℤ → List Instr
call_code args offset = args_code 0 args ++ BranchLink offset ∷ []

abbrev pub cross_code : (entry : ℕ) → (args : List ℕ) → List Instr
cross_code entry args = (word_into 12 (entry + 1) ++ args_code 0 args) ++ svc 0 ∷ []

-- LDR r0 and MOV r12, r0: the function whose address a register of the function holds
abbrev pub callee_code : (callee : ℕ) → (args : List ℕ) → List Instr
callee_code h args = load_home 0 h ∷ HighRegister 2 0 12 ∷ args_code 0 args

-- BLX r12
abbrev pub icall_code : (callee : ℕ) → (args : List ℕ) → List Instr
icall_code h args = callee_code h args ++ BranchExchange 1 12 ∷ []

abbrev pub icross_code : (callee : ℕ) → (args : List ℕ) → List Instr
icross_code h args = callee_code h args ++ svc 0 ∷ []

-- the call of a function with this entry, at an address; `site` is the call's site where it may go to another compartment
abbrev pub call_items : (at entry : ℕ) → (site to : Option ℕ) → (args : List ℕ) → List Item
call_items at entry None to args = plain (call_code args (distance (at + total (plain (args_code 0 args))) entry)) ++ plain (save_code to)
call_items at entry (Some s) to args = plain (cross_code entry args) ++ Half s ∷ plain (save_code to)

abbrev pub icall_items : (site to : Option ℕ) → (callee : ℕ) → (args : List ℕ) → List Item
icall_items None to h args = plain (icall_code h args) ++ plain (save_code to)
icall_items (Some s) to h args = plain (icross_code h args) ++ Half s ∷ plain (save_code to)

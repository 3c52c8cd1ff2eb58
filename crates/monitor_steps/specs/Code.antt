-- The code of a list of steps. Its branches are relative, so it needs no address, and its length depends on no number in it.
use Rattle.std.specs.Prelude.{ℕ, pos, negsuc, ◌+◌, ◌/◌, ◌%◌, ◌^◌, Bool, true, false, List, [], ◌∷◌, ◌++◌, nat_eq}
use Rattle.base_words.specs.declared.memory.Width.{Width}
use Rattle.base_words.specs.declared.memory.Width.TheVariants.{Byte, Half, Word}
use Rattle.machine_thumb.specs.declared.table.Instr.{Instr}
use Rattle.machine_thumb.specs.declared.table.Instr.TheVariants.{AddSubRegister, DataImmediate, DataRegister, HighRegister, BranchExchange, TransferImmediate, BreakpointNop, BranchConditional, BranchWide, MoveWide, MoveTop, SpecialRegister, Barrier}
use Rattle.monitor_steps.specs.declared.steps.PrivilegedOp.{PrivilegedOp}
use Rattle.monitor_steps.specs.declared.steps.PrivilegedOp.TheVariants.{Add, Sub, And, Or, Shl, Shr}
use Rattle.monitor_steps.specs.declared.steps.PrivilegedCond.{PrivilegedCond}
use Rattle.monitor_steps.specs.declared.steps.PrivilegedCond.TheVariants.{Eq, Ult, Ule}
use Rattle.monitor_steps.specs.Steps.{PrivilegedSteps, End, Const, Copy, Load, Store, Alu, ReadPsp, WritePsp, WriteControl, Test, Repeat, Halt, Return, Go}

-- LDRB, LDRH, LDR and STRB, STRH, STR, as the form of encoding counts them
abbrev pub load_op : Width → ℕ
load_op Byte = 3
load_op Half = 5
load_op Word = 1

abbrev pub store_op : Width → ℕ
store_op Byte = 2
store_op Half = 4
store_op Word = 0

-- EQ, LO and LS, which hold after CMP a, b where a is b, is below b, and is at most b (A7.3)
abbrev pub condition_number : PrivilegedCond → ℕ
condition_number Eq = 0
condition_number Ult = 3
condition_number Ule = 9

-- an operation of the form `op d, d, m`: where the destination is the first operand, it alone; where it is the second, by
-- r12; else behind a move of the first operand
abbrev pub by_moves : (op to a b : ℕ) → (to_is_a to_is_b : Bool) → List Instr
by_moves op to a b true t = DataRegister op b to ∷ []
by_moves op to a b false true = HighRegister 2 a 12 ∷ DataRegister op b a ∷ HighRegister 2 a to ∷ HighRegister 2 12 a ∷ []
by_moves op to a b false false = HighRegister 2 a to ∷ DataRegister op b to ∷ []

-- by which registers are the same
abbrev pub two_address : (op to a b : ℕ) → List Instr
two_address op to a b = by_moves op to a b (nat_eq to a) (nat_eq to b)

-- ADDS and SUBS have three registers; ANDS, ORRS, LSLS and LSRS have two
abbrev pub operation_code : PrivilegedOp → (to a b : ℕ) → List Instr
operation_code Add to a b = AddSubRegister 0 b a to ∷ []
operation_code Sub to a b = AddSubRegister 1 b a to ∷ []
operation_code And to a b = two_address 0 to a b
operation_code Or to a b = two_address 12 to a b
operation_code Shl to a b = two_address 2 to a b
operation_code Shr to a b = two_address 3 to a b

-- in bytes
abbrev pub two_address_length : (to_is_a to_is_b : Bool) → ℕ
two_address_length true t = 2
two_address_length false true = 8
two_address_length false false = 4

abbrev pub operation_length : PrivilegedOp → (to_is_a to_is_b : Bool) → ℕ
operation_length Add a b = 2
operation_length Sub a b = 2
operation_length And a b = two_address_length a b
operation_length Or a b = two_address_length a b
operation_length Shl a b = two_address_length a b
operation_length Shr a b = two_address_length a b

-- how many bytes the code of a list has
abbrev pub code_length : PrivilegedSteps → ℕ
code_length End = 0
code_length (Const to number rest) = 8 + code_length rest
code_length (Copy to from rest) = 2 + code_length rest
code_length (Load width to base offset rest) = 2 + code_length rest
code_length (Store width from base offset rest) = 2 + code_length rest
code_length (Alu op to a b rest) = operation_length op (nat_eq to a) (nat_eq to b) + code_length rest
code_length (ReadPsp to rest) = 4 + code_length rest
code_length (WritePsp from rest) = 4 + code_length rest
code_length (WriteControl from rest) = 8 + code_length rest
code_length (Test cond a b if_true if_false rest) = 12 + code_length if_true + code_length if_false + code_length rest
code_length (Repeat left most body rest) = 14 + code_length body + code_length rest
code_length (Halt code rest) = 2 + code_length rest
code_length (Return rest) = 10 + code_length rest
code_length (Go to link rest) = 4 + code_length rest

-- CMP; a branch past a wide branch to the second list where the condition holds; the first list; a wide branch past the
-- second; the second. So each list may have any length
abbrev pub test_code : PrivilegedCond → (a b : ℕ) → (true_length false_length : ℕ) → (if_true if_false rest : List Instr) → List Instr
test_code cond a b m n if_true if_false rest =
    DataRegister 10 b a
    ∷ BranchConditional (condition_number cond) (pos 2)
    ∷ BranchWide (pos (m + 4))
    ∷ (if_true ++ (BranchWide (pos n) ∷ (if_false ++ rest)))

-- CMP with 0; a branch past a wide branch to the rest where it is not 0; the body; SUBS of 1; a wide branch back to CMP
abbrev pub repeat_code : (left body_length : ℕ) → (body rest : List Instr) → List Instr
repeat_code left n body rest =
    DataImmediate 1 left 0
    ∷ BranchConditional 1 (pos 2)
    ∷ BranchWide (pos (n + 6))
    ∷ (body ++ (DataImmediate 3 left 1 ∷ BranchWide (negsuc (n + 13)) ∷ rest))

-- of a list
abbrev pub code : PrivilegedSteps → List Instr
code End = []
-- MOVW and MOVT also where the number is small: no number changes a length
code (Const to number rest) = MoveWide to (number % 2 ^ 16) ∷ MoveTop to (number / 2 ^ 16) ∷ code rest
code (Copy to from rest) = HighRegister 2 from to ∷ code rest
code (Load width to base offset rest) = TransferImmediate (load_op width) offset base to ∷ code rest
code (Store width from base offset rest) = TransferImmediate (store_op width) offset base from ∷ code rest
code (Alu op to a b rest) = operation_code op to a b ++ code rest
-- MRS and MSR, where PSP has the number 9 and CONTROL 20; an ISB stands behind the latter (B1.4.4)
code (ReadPsp to rest) = SpecialRegister 1 0 to 9 ∷ code rest
code (WritePsp from rest) = SpecialRegister 0 from 0 9 ∷ code rest
code (WriteControl from rest) = SpecialRegister 0 from 0 20 ∷ Barrier 1 ∷ code rest
code (Test cond a b if_true if_false rest) = test_code cond a b (code_length if_true) (code_length if_false) (code if_true) (code if_false) (code rest)
code (Repeat left most body rest) = repeat_code left (code_length body) (code body) (code rest)
code (Halt number rest) = BreakpointNop 0 number ∷ code rest
-- DSB and ISB, so that writes of the protection unit count before the return (B3.5.1); BX LR
code (Return rest) = Barrier 0 ∷ Barrier 1 ∷ BranchExchange 0 14 ∷ code rest
-- MOV LR; BX
code (Go to link rest) = HighRegister 2 link 14 ∷ BranchExchange 0 to ∷ code rest

-- What each instruction of the table asks for (Armv7-M ARM, A7.7). `next` is the address behind it.
use Rattle.std.specs.Prelude.{ℕ, zero, suc, ◌+◌, ◌-◌, ◌*◌, ◌/◌, ◌%◌, ◌^◌, List, [], ◌∷◌, ◌++◌, length, Option, Some, None, nat_eq, if◌then◌else◌}
use Rattle.std.proofs.Common.{to_z, of_z, w8, w16, w32}
use Rattle.base_words.specs.Arithmetic.{word, add, moved, unsigned_quotient, signed_quotient}
use Rattle.base_words.specs.Flags.{compare_flags, holds}
use Rattle.machine_thumb.specs.declared.table.Instr.{Instr}
use Rattle.machine_thumb.specs.declared.table.Instr.TheVariants.{ShiftImmediate, AddSubRegister, AddSubImmediate, DataImmediate, DataRegister, HighRegister, BranchExchange, LoadLiteral, TransferRegister, TransferImmediate, StackRelative, AdjustStack, PushPop, BreakpointNop, TransferMultiple, BranchConditional, CallBranch, BranchLink, BranchWide, MoveWide, MoveTop, Divide, SpecialRegister, Barrier}
use Rattle.machine_model.specs.declared.state.CoreRegisters.{CoreRegisters}
use Rattle.machine_model.specs.declared.state.StopReason.TheVariants.{Usage}
use Rattle.machine_model.specs.State.{low_register, with_low, at, low_at, register, with_register}
use Rattle.machine_model.specs.Act.{Act, Changes, Loads, Stores, LoadsMany, StoresMany, GetsSpecial, SetsSpecial, Exchanges, Calls, Halts, Stops}
use Rattle.machine_model.specs.DataOperations.{after_outcome, shift_by, immediate_amount, add_or_subtract, immediate, operation}

-- ADD, CMP, MOV with any registers; only CMP sets flags
abbrev pub high_operation : (op m d : ℕ) → (next : ℕ) → CoreRegisters → CoreRegisters
high_operation op m d next c =
    if nat_eq op 0 then at (with_register c d (add (register c d) (register c m))) next
    else if nat_eq op 1 then record c { pc = next; flags = compare_flags (register c d) (register c m) }
    else at (with_register c d (register c m)) next

-- BLX and POP take bit 0 of a target for the Thumb state (BLXWritePC, LoadWritePC)
abbrev pub jump : (target : ℕ) → CoreRegisters → Act
jump v c = if nat_eq (v % 2) 1 then Changes (at c (v - 1)) else Stops Usage

-- BX, BLX
abbrev pub exchange : (op target : ℕ) → (next : ℕ) → CoreRegisters → Act
exchange op v next c = if nat_eq op 0 then Exchanges v else jump v (record c { lr = next + 1 })

-- a load into a register, with zeros or with the sign before the value (ZeroExtend, SignExtend)
abbrev pub load_into : (register width address : ℕ) → (next : ℕ) → CoreRegisters → Act
load_into t w a next c = Loads w a (λ v. low_at c next t v)

abbrev pub load_byte_signed : (register address : ℕ) → (next : ℕ) → CoreRegisters → Act
load_byte_signed t a next c = Loads 1 a (λ v. low_at c next t (of_z w32 (to_z w8 v)))

abbrev pub load_half_signed : (register address : ℕ) → (next : ℕ) → CoreRegisters → Act
load_half_signed t a next c = Loads 2 a (λ v. low_at c next t (of_z w32 (to_z w16 v)))

abbrev pub store_from : (register width address : ℕ) → (next : ℕ) → CoreRegisters → Act
store_from t w a next c = Stores w a (low_register c t) (at c next)

-- STR STRH STRB LDRSB LDR LDRH LDRB LDRSH
abbrev pub transfer : (op register address : ℕ) → (next : ℕ) → CoreRegisters → Act
transfer op t a next c =
    if nat_eq op 0 then store_from t 4 a next c
    else if nat_eq op 1 then store_from t 2 a next c
    else if nat_eq op 2 then store_from t 1 a next c
    else if nat_eq op 3 then load_byte_signed t a next c
    else if nat_eq op 4 then load_into t 4 a next c
    else if nat_eq op 5 then load_into t 2 a next c
    else if nat_eq op 6 then load_into t 1 a next c
    else load_half_signed t a next c

-- STR LDR STRB LDRB STRH LDRH, whose number counts widths
abbrev pub transfer_immediate : (op number base register : ℕ) → (next : ℕ) → CoreRegisters → Act
transfer_immediate op k b t next c =
    if nat_eq op 0 then store_from t 4 (word (b + 4 * k)) next c
    else if nat_eq op 1 then load_into t 4 (word (b + 4 * k)) next c
    else if nat_eq op 2 then store_from t 1 (word (b + k)) next c
    else if nat_eq op 3 then load_into t 1 (word (b + k)) next c
    else if nat_eq op 4 then store_from t 2 (word (b + 2 * k)) next c
    else load_into t 2 (word (b + 2 * k)) next c

-- STR and LDR from the stack pointer, and its sum with a number, which counts words
abbrev pub stack_relative : (op t d number : ℕ) → (next : ℕ) → CoreRegisters → Act
stack_relative op t d k next c =
    if nat_eq op 0 then store_from t 4 (word (c.sp + 4 * k)) next c
    else if nat_eq op 1 then load_into t 4 (word (c.sp + 4 * k)) next c
    else Changes (low_at c next d (word (c.sp + 4 * k)))

-- ADD SP, SUB SP
abbrev pub adjusted_stack : (op number : ℕ) → CoreRegisters → CoreRegisters
adjusted_stack op k c =
    if nat_eq op 0 then record c { sp = word (c.sp + 4 * k) } else record c { sp = word (c.sp + 2 ^ 32 - 4 * k) }

-- the registers of a list of bits, the lowest first
unfoldable pub listed : (count register bits : ℕ) → List ℕ
listed zero k bits = []
listed (suc n) k bits = if nat_eq (bits % 2) 1 then k ∷ listed n (k + 1) (bits / 2) else listed n (k + 1) (bits / 2)

abbrev pub values_of : CoreRegisters → List ℕ → List ℕ
values_of c [] = []
values_of c (k ∷ ks) = low_register c k ∷ values_of c ks

-- values into registers, one into each
abbrev pub filled : CoreRegisters → (registers values : List ℕ) → CoreRegisters
filled c [] vs = c
filled c (k ∷ ks) [] = c
filled c (k ∷ ks) (v ∷ vs) = filled (with_low c k v) ks vs

-- PUSH: the list, and LR where M is set, below the stack pointer
abbrev pub with_link : (m : ℕ) → CoreRegisters → List ℕ → List ℕ
with_link m c vs = if nat_eq m 1 then vs ++ c.lr ∷ [] else vs

abbrev pub push : List ℕ → (next : ℕ) → CoreRegisters → Act
push vs next c = let a : ℕ = word (c.sp + 2 ^ 32 - 4 * length vs) in StoresMany a vs (record c { sp = a; pc = next })

-- POP: the list, and the program counter behind it where P is set
abbrev pub last_of : List ℕ → ℕ
last_of [] = 0
last_of (v ∷ []) = v
last_of (v ∷ w ∷ vs) = last_of (w ∷ vs)

abbrev pub popped : (p : ℕ) → (next : ℕ) → CoreRegisters → (registers values : List ℕ) → Option CoreRegisters
popped p next c ks vs =
    let d : CoreRegisters = filled (record c { sp = word (c.sp + 4 * length vs) }) ks vs in
    if nat_eq p 1 then (if nat_eq (last_of vs % 2) 1 then Some (at d (last_of vs - 1)) else None) else Some (at d next)

abbrev pub pop : (p : ℕ) → List ℕ → (next : ℕ) → CoreRegisters → Act
pop p ks next c = LoadsMany c.sp (length ks + p) (popped p next c ks)

abbrev pub push_or_pop : (op m p list : ℕ) → (next : ℕ) → CoreRegisters → Act
push_or_pop op m p list next c =
    if nat_eq op 0 then push (with_link m c (values_of c (listed 8 0 list))) next c
    else pop p (listed 8 0 list) next c

-- STMIA, LDMIA: the base goes up behind the words, unless it is loaded
abbrev pub store_multiple : (n : ℕ) → List ℕ → (next : ℕ) → CoreRegisters → Act
store_multiple n ks next c =
    StoresMany (low_register c n) (values_of c ks) (low_at c next n (word (low_register c n + 4 * length ks)))

abbrev pub load_multiple : (n : ℕ) → List ℕ → (next : ℕ) → CoreRegisters → Act
load_multiple n ks next c =
    LoadsMany (low_register c n) (length ks) (λ vs. Some (filled (low_at c next n (word (low_register c n + 4 * length ks))) ks vs))

-- the program counter as an instruction reads it is 4 behind the instruction's address (A5.1.2)
abbrev pub act_by : Instr → (next : ℕ) → CoreRegisters → Act
act_by (ShiftImmediate op imm5 m d) next c =
    Changes (after_outcome (shift_by op (low_register c m) (immediate_amount op imm5) c.flags) c next d)
act_by (AddSubRegister op m n d) next c =
    Changes (after_outcome (add_or_subtract op (low_register c n) (low_register c m)) c next d)
act_by (AddSubImmediate op imm3 n d) next c = Changes (after_outcome (add_or_subtract op (low_register c n) imm3) c next d)
act_by (DataImmediate op d imm8) next c = Changes (after_outcome (immediate op (low_register c d) imm8 c.flags) c next d)
act_by (DataRegister op m d) next c =
    Changes (after_outcome (operation op (low_register c d) (low_register c m) c.flags) c next d)
act_by (HighRegister op m d) next c = Changes (high_operation op m d next c)
act_by (BranchExchange op m) next c = exchange op (register c m) next c
act_by (LoadLiteral t imm8) next c = load_into t 4 (word ((next + 2) / 4 * 4 + 4 * imm8)) next c
act_by (TransferRegister op m n t) next c = transfer op t (add (low_register c n) (low_register c m)) next c
act_by (TransferImmediate op imm5 n t) next c = transfer_immediate op imm5 (low_register c n) t next c
act_by (StackRelative op t d imm8) next c = stack_relative op t d imm8 next c
act_by (AdjustStack op imm7) next c = Changes (at (adjusted_stack op imm7 c) next)
act_by (PushPop op m p list) next c = push_or_pop op m p list next c
act_by (BreakpointNop op imm8) next c = if nat_eq op 0 then Halts imm8 else Changes (at c next)
act_by (TransferMultiple op n list) next c =
    if nat_eq op 0 then store_multiple n (listed 8 0 list) next c else load_multiple n (listed 8 0 list) next c
act_by (BranchConditional cond offset) next c =
    Changes (at c (if holds cond c.flags then moved (next + 2) offset else next))
act_by (CallBranch op imm8 offset) next c = if nat_eq op 0 then Calls next else Changes (at c (moved (next + 2) offset))
act_by (BranchLink offset) next c = Changes (record c { lr = next + 1; pc = moved next offset })
act_by (BranchWide offset) next c = Changes (at c (moved next offset))
act_by (MoveWide d value) next c = Changes (at (with_register c d value) next)
act_by (MoveTop d value) next c = Changes (at (with_register c d (register c d % 2 ^ 16 + value * 2 ^ 16)) next)
act_by (Divide op n d m) next c =
    Changes (at (with_register c d (if nat_eq op 0 then unsigned_quotient (register c n) (register c m) else signed_quotient (register c n) (register c m))) next)
act_by (SpecialRegister op n d s) next c = if nat_eq op 0 then SetsSpecial s (register c n) (at c next) else GetsSpecial s d (at c next)
act_by (Barrier op) next c = Changes (at c next)

unfoldable pub act : Instr → (next : ℕ) → CoreRegisters → Act
act i next c = act_by i next c

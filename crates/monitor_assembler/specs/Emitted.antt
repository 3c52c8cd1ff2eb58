-- Beyond the program's claim: only laws, proofs and functions inside the tool cite this file.
-- What the assembler of steps puts, and when it may.
use Rattle.std.specs.Prelude.{◌≡◌, ℕ, pos, negsuc, ◌+◌, ◌<◌, ◌^◌, Bool, true, ◌&&◌, List, [], ◌∷◌, ◌++◌, map, nat_lt}
use Rattle.machine_thumb.specs.declared.table.Instr.{Instr}
use Rattle.machine_thumb.specs.declared.table.Instr.TheVariants.{DataImmediate, DataRegister, BranchConditional, BranchWide}
use Rattle.machine_thumb_asm.specs.declared.item.Item.TheVariants.{Plain}
use Rattle.machine_thumb_asm.specs.Assembly.{Assembly, here}
use Rattle.machine_model.specs.Running.{code_size}
use Rattle.monitor_steps.specs.Steps.{PrivilegedSteps, End, Const, Copy, Load, Store, Alu, ReadPsp, WritePsp, WriteControl, Test, Repeat, Halt, Return, Go, names_low}
use Rattle.monitor_steps.specs.declared.steps.PrivilegedCond.{PrivilegedCond}
use Rattle.monitor_steps.specs.Code.{code_length, condition_number}

-- each load and store is at most 31 widths from its base
abbrev pub has_near_offsets : PrivilegedSteps → Bool
has_near_offsets End = true
has_near_offsets (Const to number rest) = has_near_offsets rest
has_near_offsets (Copy to from rest) = has_near_offsets rest
has_near_offsets (Load width to base offset rest) = nat_lt offset 32 && has_near_offsets rest
has_near_offsets (Store width from base offset rest) = nat_lt offset 32 && has_near_offsets rest
has_near_offsets (Alu op to a b rest) = has_near_offsets rest
has_near_offsets (ReadPsp to rest) = has_near_offsets rest
has_near_offsets (WritePsp from rest) = has_near_offsets rest
has_near_offsets (WriteControl from rest) = has_near_offsets rest
has_near_offsets (Test cond a b if_true if_false rest) =
    (has_near_offsets if_true && has_near_offsets if_false) && has_near_offsets rest
has_near_offsets (Repeat left most body rest) = has_near_offsets body && has_near_offsets rest
has_near_offsets (Halt code rest) = has_near_offsets rest
has_near_offsets (Return rest) = has_near_offsets rest
has_near_offsets (Go to link rest) = has_near_offsets rest

-- a list whose code an assembler can take: its registers are r0 to r7, its offsets are near, its branches reach, and
-- the addresses stay below 2^31
pub record MayPut (a : Assembly) (s : PrivilegedSteps) : Type 0 where
  pub registers : names_low s ≡ true
  pub offsets : has_near_offsets s ≡ true
  pub short : code_length s < 2 ^ 24
  pub room : here a + code_length s < 2 ^ 31

-- instructions behind all that an assembler holds
abbrev pub with_code : Assembly → List Instr → Assembly
with_code a is = record a { items = a.items ++ map Plain is }

-- they were put, and the next address is behind them
pub record HasPut (old new : Assembly) (is : List Instr) : Type 0 where
  pub code : new ≡ with_code old is
  pub next : here new ≡ here old + code_size is

-- ---- the parts of a test and of a loop, between whose lists they stand

-- of a test whose first list has so many bytes
abbrev pub choice_code : PrivilegedCond → (a b length : ℕ) → List Instr
choice_code cond a b n =
    DataRegister 10 b a ∷ BranchConditional (condition_number cond) (pos 2) ∷ BranchWide (pos (n + 4)) ∷ []

-- of a loop whose body has so many bytes
abbrev pub loop_head : (left length : ℕ) → List Instr
loop_head left n = DataImmediate 1 left 0 ∷ BranchConditional 1 (pos 2) ∷ BranchWide (pos (n + 6)) ∷ []

abbrev pub loop_end : (left length : ℕ) → List Instr
loop_end left n = DataImmediate 3 left 1 ∷ BranchWide (negsuc (n + 13)) ∷ []

-- The language of privileged steps. Lists work on r0 to r7, which are named by their numbers, and on what these point to.
use Rattle.std.specs.Prelude.{ℕ, Bool, true, ◌&&◌, nat_lt}
use Rattle.base_words.specs.declared.memory.Width.{Width}
use Rattle.monitor_steps.specs.declared.steps.PrivilegedOp.{PrivilegedOp}
use Rattle.monitor_steps.specs.declared.steps.PrivilegedCond.{PrivilegedCond}

-- a list of steps: its first step, with the rest of the list behind it. What stands behind a halt, a return or a branch is
-- code too, which is never run
pub data PrivilegedSteps : Type 0 where
  End : PrivilegedSteps
  -- a number, and the value of another register, into a register
  Const : (to number : ℕ) (rest : PrivilegedSteps) → PrivilegedSteps
  Copy : (to from : ℕ) (rest : PrivilegedSteps) → PrivilegedSteps
  -- a load with zeros before the value, and a store of a register's low bytes. The offset counts widths
  Load : (width : Width) (to base offset : ℕ) (rest : PrivilegedSteps) → PrivilegedSteps
  Store : (width : Width) (from base offset : ℕ) (rest : PrivilegedSteps) → PrivilegedSteps
  -- an operation on the registers a and b
  Alu : (op : PrivilegedOp) (to a b : ℕ) (rest : PrivilegedSteps) → PrivilegedSteps
  -- the process stack pointer, and CONTROL
  ReadPsp : (to : ℕ) (rest : PrivilegedSteps) → PrivilegedSteps
  WritePsp : (from : ℕ) (rest : PrivilegedSteps) → PrivilegedSteps
  WriteControl : (from : ℕ) (rest : PrivilegedSteps) → PrivilegedSteps
  -- one of two lists, by a comparison of the registers a and b; then the rest
  Test : (cond : PrivilegedCond) (a b : ℕ) (if_true if_false rest : PrivilegedSteps) → PrivilegedSteps
  -- the body while the register `left` is not 0, in at most `most` turns; behind each turn 1 is taken off it
  Repeat : (left most : ℕ) (body rest : PrivilegedSteps) → PrivilegedSteps
  -- BKPT; the exception return; a branch to the address in a register, with the link register from another
  Halt : (code : ℕ) (rest : PrivilegedSteps) → PrivilegedSteps
  Return : (rest : PrivilegedSteps) → PrivilegedSteps
  Go : (to link : ℕ) (rest : PrivilegedSteps) → PrivilegedSteps

-- steps in front of the rest
infixr 0 ◌▸◌
abbrev pub ◌▸◌ : (PrivilegedSteps → PrivilegedSteps) → PrivilegedSteps → PrivilegedSteps
steps ▸ rest = steps rest

abbrev pub is_low : ℕ → Bool
is_low register = nat_lt register 8

-- every register that the list names is one of r0 to r7
abbrev pub names_low : PrivilegedSteps → Bool
names_low End = true
names_low (Const to number rest) = is_low to && names_low rest
names_low (Copy to from rest) = (is_low to && is_low from) && names_low rest
names_low (Load width to base offset rest) = (is_low to && is_low base) && names_low rest
names_low (Store width from base offset rest) = (is_low from && is_low base) && names_low rest
names_low (Alu op to a b rest) = ((is_low to && is_low a) && is_low b) && names_low rest
names_low (ReadPsp to rest) = is_low to && names_low rest
names_low (WritePsp from rest) = is_low from && names_low rest
names_low (WriteControl from rest) = is_low from && names_low rest
names_low (Test cond a b if_true if_false rest) =
    (is_low a && is_low b) && ((names_low if_true && names_low if_false) && names_low rest)
names_low (Repeat left most body rest) = is_low left && (names_low body && names_low rest)
names_low (Halt code rest) = names_low rest
names_low (Return rest) = names_low rest
names_low (Go to link rest) = (is_low to && is_low link) && names_low rest

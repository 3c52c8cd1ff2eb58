-- Beyond the program's claim: only laws, proofs and functions inside the tool cite this file.
-- What a list of steps does to a core.
use Rattle.std.specs.Prelude.{ℕ, zero, suc, ◌/◌, ◌%◌, Bool, true, false, nat_eq, nat_lt, nat_le, bit_and, bit_or}
use Rattle.base_words.specs.Arithmetic.{add, subtract, shift_left, shift_right}
use Rattle.machine_devices.specs.declared.image.Image.{Image}
use Rattle.machine_model.specs.declared.state.StopReason.{StopReason}
use Rattle.machine_model.specs.State.{PermissionTest}
use Rattle.monitor_steps.specs.declared.steps.PrivilegedOp.{PrivilegedOp}
use Rattle.monitor_steps.specs.declared.steps.PrivilegedOp.TheVariants.{Add, Sub, And, Or, Shl, Shr}
use Rattle.monitor_steps.specs.declared.steps.PrivilegedCond.{PrivilegedCond}
use Rattle.monitor_steps.specs.declared.steps.PrivilegedCond.TheVariants.{Eq, Ult, Ule}
use Rattle.monitor_steps.specs.Steps.{PrivilegedSteps, End, Const, Copy, Load, Store, Alu, ReadPsp, WritePsp, WriteControl, Test, Repeat, Halt, Return, Go}
use Rattle.monitor_steps.specs.Core.{Core, low_register, with_low, with_psp, with_privilege, on_process_stack, is_privileged_on_msp}
use Rattle.monitor_steps.specs.Accesses.{LoadResult, Value, LoadStops, LoadUnclaimed, StoreResult, Written, StoreStops, StoreUnclaimed, load, store}

-- how a list ends
pub data Outcome : Type 0 where
  -- behind its last step
  Went : (core : Core) → Outcome
  -- by BKPT
  Halted : (code : ℕ) (core : Core) → Outcome
  -- before its exception return, which stands there and has not run
  AtReturn : (core : Core) → Outcome
  -- before the two instructions of its branch, to the address in a register, with the link in another
  AtBranch : (to link : ℕ) (core : Core) → Outcome
  -- the machine stops
  Stopped : (reason : StopReason) (core : Core) → Outcome
  -- nothing is claimed
  Unclaimed : Outcome

-- the rest, where a list goes on
abbrev pub then_do : Outcome → (Core → Outcome) → Outcome
then_do (Went c) f = f c
then_do (Halted n c) f = Halted n c
then_do (AtReturn c) f = AtReturn c
then_do (AtBranch to link c) f = AtBranch to link c
then_do (Stopped r c) f = Stopped r c
then_do Unclaimed f = Unclaimed

-- on words: sums and differences modulo 2 ^ 32, shifts by the low byte of the second
abbrev pub operation : PrivilegedOp → ℕ → ℕ → ℕ
operation Add x y = add x y
operation Sub x y = subtract x y
operation And x y = bit_and x y
operation Or x y = bit_or x y
operation Shl x y = shift_left x y
operation Shr x y = shift_right x y

-- as unsigned numbers
abbrev pub compared : PrivilegedCond → ℕ → ℕ → Bool
compared Eq x y = nat_eq x y
compared Ult x y = nat_lt x y
compared Ule x y = nat_le x y

-- a loaded value goes into a register; then the rest
abbrev pub after_load : LoadResult → Core → (to : ℕ) → (Core → Outcome) → Outcome
after_load (Value v) c to f = f (with_low c to v)
after_load (LoadStops r) c to f = Stopped r c
after_load LoadUnclaimed c to f = Unclaimed

-- the core is changed by a store; then the rest
abbrev pub after_store : StoreResult → Core → (Core → Outcome) → Outcome
after_store (Written d) c f = f d
after_store (StoreStops r) c f = Stopped r c
after_store StoreUnclaimed c f = Unclaimed

-- the first list where a test says yes, else the second
abbrev pub either : Bool → (Core → Outcome) → (Core → Outcome) → Core → Outcome
either true f g c = f c
either false f g c = g c

-- the first list where a number is 0, else the second
abbrev pub by_zero : ℕ → (Core → Outcome) → (Core → Outcome) → Core → Outcome
by_zero zero f g c = f c
by_zero (suc n) f g c = g c

-- a write of CONTROL: in Handler mode its bit 1 stays; a privileged thread on the main stack goes over to the process stack.
-- Of all else nothing is claimed
abbrev pub after_control : (handler privileged_on_msp process_stack : Bool) → (control : ℕ) → Core → (Core → Outcome) → Outcome
after_control true s p v c f = f (with_privilege c v)
after_control false true true v c f = f (with_privilege (on_process_stack c) v)
after_control false true false v c f = Unclaimed
after_control false false p v c f = Unclaimed

-- one taken off the register of a loop, behind a turn
abbrev pub with_one_less : (left : ℕ) → Core → Core
with_one_less left c = with_low c left (subtract (low_register c left) 1)

-- the turns of a loop; where it asks for more than so many, nothing is claimed
abbrev pub turns : (most left : ℕ) → (body : Core → Outcome) → Core → Outcome
turns zero left body = λ c. by_zero (low_register c left) Went (λ c. Unclaimed) c
turns (suc n) left body = λ c. by_zero (low_register c left) Went (λ c. then_do (body c) (λ d. turns n left body (with_one_less left d))) c

module _ (j : PermissionTest) (i : Image) where
  -- step by step
  abbrev pub effect : PrivilegedSteps → Core → Outcome
  effect End c = Went c
  effect (Const to number rest) c = effect rest (with_low c to number)
  effect (Copy to from rest) c = effect rest (with_low c to (low_register c from))
  effect (Load width to base offset rest) c = after_load (load j i width base offset c) c to (effect rest)
  effect (Store width from base offset rest) c = after_store (store j i width from base offset c) c (effect rest)
  effect (Alu op to a b rest) c = effect rest (with_low c to (operation op (low_register c a) (low_register c b)))
  effect (ReadPsp to rest) c = either (is_privileged_on_msp c) (λ c. effect rest (with_low c to c.other_sp)) (λ c. Unclaimed) c
  effect (WritePsp from rest) c = either (is_privileged_on_msp c) (λ c. effect rest (with_psp c (low_register c from))) (λ c. Unclaimed) c
  effect (WriteControl from rest) c =
      after_control c.protection.handler (is_privileged_on_msp c) (nat_eq (low_register c from / 2 % 2) 1) (low_register c from) c (effect rest)
  effect (Test cond a b if_true if_false rest) c =
      then_do (either (compared cond (low_register c a) (low_register c b)) (effect if_true) (effect if_false) c) (effect rest)
  effect (Repeat left most body rest) c = then_do (turns most left (effect body) c) (effect rest)
  effect (Halt code rest) c = Halted code c
  effect (Return rest) c = AtReturn c
  effect (Go to link rest) c = AtBranch to link c

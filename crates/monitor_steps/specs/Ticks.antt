-- Beyond the program's claim: only laws, proofs and functions inside the tool cite this file.
-- How many steps the machine makes for a list.
use Rattle.std.specs.Prelude.{ℕ, zero, suc, ◌+◌, ◌*◌, ◌/◌, ◌%◌, max, Bool, true, false, nat_eq}
use Rattle.machine_devices.specs.declared.image.Image.{Image}
use Rattle.machine_model.specs.State.{PermissionTest}
use Rattle.monitor_steps.specs.Steps.{PrivilegedSteps, End, Const, Copy, Load, Store, Alu, ReadPsp, WritePsp, WriteControl, Test, Repeat, Halt, Return, Go}
use Rattle.monitor_steps.specs.Core.{Core, low_register, with_low, with_psp, with_privilege, on_process_stack, is_privileged_on_msp}
use Rattle.monitor_steps.specs.Accesses.{LoadResult, Value, LoadStops, LoadUnclaimed, StoreResult, Written, StoreStops, StoreUnclaimed, load, store}
use Rattle.monitor_steps.specs.Effect.{Outcome, Went, Halted, AtReturn, AtBranch, Stopped, Unclaimed, operation, compared, either, with_one_less, turns, effect}

-- at most, whatever it is run on: loops count with all their turns, tests with their longer list
abbrev pub most_ticks : PrivilegedSteps → ℕ
most_ticks End = 0
most_ticks (Const to number rest) = 2 + most_ticks rest
most_ticks (Copy to from rest) = 1 + most_ticks rest
most_ticks (Load width to base offset rest) = 1 + most_ticks rest
most_ticks (Store width from base offset rest) = 1 + most_ticks rest
most_ticks (Alu op to a b rest) = 4 + most_ticks rest
most_ticks (ReadPsp to rest) = 1 + most_ticks rest
most_ticks (WritePsp from rest) = 1 + most_ticks rest
most_ticks (WriteControl from rest) = 2 + most_ticks rest
most_ticks (Test cond a b if_true if_false rest) = 4 + max (most_ticks if_true) (most_ticks if_false) + most_ticks rest
most_ticks (Repeat left most body rest) = most * (most_ticks body + 4) + 3 + most_ticks rest
most_ticks (Halt code rest) = 1
most_ticks (Return rest) = 2
most_ticks (Go to link rest) = 0

-- the rest's, behind each kind of step
abbrev pub load_ticks : LoadResult → (value_ticks : ℕ → ℕ) → ℕ
load_ticks (Value v) f = f v
load_ticks (LoadStops r) f = 0
load_ticks LoadUnclaimed f = 0

abbrev pub store_ticks : StoreResult → (core_ticks : Core → ℕ) → ℕ
store_ticks (Written d) f = f d
store_ticks (StoreStops r) f = 0
store_ticks StoreUnclaimed f = 0

abbrev pub then_ticks : Outcome → (core_ticks : Core → ℕ) → ℕ
then_ticks (Went d) f = f d
then_ticks (Halted n d) f = 0
then_ticks (AtReturn d) f = 0
then_ticks (AtBranch to link d) f = 0
then_ticks (Stopped r d) f = 0
then_ticks Unclaimed f = 0

abbrev pub either_ticks : Bool → ℕ → ℕ → ℕ
either_ticks true m n = m
either_ticks false m n = n

abbrev pub zero_ticks : ℕ → ℕ → ℕ → ℕ
zero_ticks zero m n = m
zero_ticks (suc k) m n = n

abbrev pub control_ticks : (handler privileged_on_msp process_stack : Bool) → (control : ℕ) → Core → (core_ticks : Core → ℕ) → ℕ
control_ticks true s p v c f = f (with_privilege c v)
control_ticks false true true v c f = f (with_privilege (on_process_stack c) v)
control_ticks false true false v c f = 0
control_ticks false false p v c f = 0

-- the test of a loop has three steps where it ends; a turn has two for it, and two more behind the body
abbrev pub turn_ticks : (most left : ℕ) → (body : Core → Outcome) → (body_ticks : Core → ℕ) → Core → ℕ
turn_ticks zero left body count c = 3
turn_ticks (suc n) left body count c =
    zero_ticks (low_register c left) 3 (count c + 4 + then_ticks (body c) (λ d. turn_ticks n left body count (with_one_less left d)))

module _ (j : PermissionTest) (i : Image) where
  -- from this core, at most: an operation counts with four steps, also where its code is shorter, and a test with four of its own
  abbrev pub ticks : PrivilegedSteps → Core → ℕ
  ticks End c = 0
  ticks (Const to number rest) c = 2 + ticks rest (with_low c to number)
  ticks (Copy to from rest) c = 1 + ticks rest (with_low c to (low_register c from))
  ticks (Load width to base offset rest) c = 1 + load_ticks (load j i width base offset c) (λ v. ticks rest (with_low c to v))
  ticks (Store width from base offset rest) c = 1 + store_ticks (store j i width from base offset c) (λ d. ticks rest d)
  ticks (Alu op to a b rest) c = 4 + ticks rest (with_low c to (operation op (low_register c a) (low_register c b)))
  ticks (ReadPsp to rest) c = 1 + either_ticks (is_privileged_on_msp c) (ticks rest (with_low c to c.other_sp)) 0
  ticks (WritePsp from rest) c = 1 + either_ticks (is_privileged_on_msp c) (ticks rest (with_psp c (low_register c from))) 0
  ticks (WriteControl from rest) c =
      2 + control_ticks c.protection.handler (is_privileged_on_msp c) (nat_eq (low_register c from / 2 % 2) 1) (low_register c from) c (λ d. ticks rest d)
  ticks (Test cond a b if_true if_false rest) c =
      4 + either_ticks (compared cond (low_register c a) (low_register c b)) (ticks if_true c) (ticks if_false c)
      + then_ticks (either (compared cond (low_register c a) (low_register c b)) (effect j i if_true) (effect j i if_false) c) (λ d. ticks rest d)
  ticks (Repeat left most body rest) c =
      turn_ticks most left (effect j i body) (λ d. ticks body d) c + then_ticks (turns most left (effect j i body) c) (λ d. ticks rest d)
  ticks (Halt code rest) c = 1
  ticks (Return rest) c = 2
  ticks (Go to link rest) c = 0

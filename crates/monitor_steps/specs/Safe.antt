-- Beyond the program's claim: only laws, proofs and functions inside the tool cite this file.
-- That each access of a list reaches what a rule allows, and that its code may still be fetched after it.
use Rattle.std.specs.Prelude.{ℕ, zero, suc, ◌/◌, ◌%◌, Bool, true, false, nat_eq}
use Rattle.base_words.specs.Width.{byte_count}
use Rattle.machine_protection.specs.declared.region.Access.{Access}
use Rattle.machine_protection.specs.declared.region.Access.TheVariants.{Read, Write}
use Rattle.machine_devices.specs.declared.image.Image.{Image}
use Rattle.machine_model.specs.declared.state.ProtectionState.{ProtectionState}
use Rattle.machine_model.specs.State.{PermissionTest}
use Rattle.monitor_steps.specs.Steps.{PrivilegedSteps, End, Const, Copy, Load, Store, Alu, ReadPsp, WritePsp, WriteControl, Test, Repeat, Halt, Return, Go}
use Rattle.monitor_steps.specs.Core.{Core, low_register, with_low, with_psp, with_privilege, on_process_stack, is_privileged_on_msp}
use Rattle.monitor_steps.specs.Accesses.{LoadResult, Value, LoadStops, LoadUnclaimed, StoreResult, Written, StoreStops, StoreUnclaimed, address_of, load, store}
use Rattle.monitor_steps.specs.Effect.{Outcome, Went, Halted, AtReturn, AtBranch, Stopped, Unclaimed, operation, compared, either, with_one_less, turns, effect}

-- which bytes may be loaded and stored, by the core before the access
abbrev pub Rule : Type 1
Rule = Access → Core → (width address : ℕ) → Type 0

-- a fact of what is there where the list goes on; nothing is asked where it ends
abbrev pub OnValue : LoadResult → (ℕ → Type 0) → Type 0
OnValue (Value v) P = P v
OnValue (LoadStops r) P = Unit {0}
OnValue LoadUnclaimed P = Unit {0}

abbrev pub OnWritten : StoreResult → (Core → Type 0) → Type 0
OnWritten (Written d) P = P d
OnWritten (StoreStops r) P = Unit {0}
OnWritten StoreUnclaimed P = Unit {0}

abbrev pub OnWent : Outcome → (Core → Type 0) → Type 0
OnWent (Went d) P = P d
OnWent (Halted n d) P = Unit {0}
OnWent (AtReturn d) P = Unit {0}
OnWent (AtBranch to link d) P = Unit {0}
OnWent (Stopped r d) P = Unit {0}
OnWent Unclaimed P = Unit {0}

abbrev pub OnControl : (handler privileged_on_msp process_stack : Bool) → (control : ℕ) → Core → (Core → Type 0) → Type 0
OnControl true s p v c P = P (with_privilege c v)
OnControl false true true v c P = P (with_privilege (on_process_stack c) v)
OnControl false true false v c P = Unit {0}
OnControl false false p v c P = Unit {0}

-- one of two facts, by a test
abbrev pub Either : Bool → Type 0 → Type 0 → Type 0
Either true A B = A
Either false A B = B

abbrev pub UnlessZero : ℕ → Type 0 → Type 0
UnlessZero zero A = Unit {0}
UnlessZero (suc n) A = A

-- each turn of a loop
abbrev pub AreTurnsSafe : (most left : ℕ) → (body : Core → Outcome) → (IsBodySafe : Core → Type 0) → Core → Type 0
AreTurnsSafe zero left body S c = Unit {0}
AreTurnsSafe (suc n) left body S c =
    UnlessZero (low_register c left) (S c × OnWent (body c) (λ d. AreTurnsSafe n left body S (with_one_less left d)))

-- `Good` is what has to hold of mode and protection at each step: that the code may be fetched under it
module _ (j : PermissionTest) (i : Image) (Good : ProtectionState → Type 0) (Allowed : Rule) where
  abbrev pub IsSafe : PrivilegedSteps → Core → Type 0
  IsSafe End c = Unit {0}
  IsSafe (Const to number rest) c = IsSafe rest (with_low c to number)
  IsSafe (Copy to from rest) c = IsSafe rest (with_low c to (low_register c from))
  IsSafe (Load width to base offset rest) c =
      Allowed Read c (byte_count width) (address_of c (byte_count width) base offset)
      × OnValue (load j i width base offset c) (λ v. IsSafe rest (with_low c to v))
  IsSafe (Store width from base offset rest) c =
      Allowed Write c (byte_count width) (address_of c (byte_count width) base offset)
      × OnWritten (store j i width from base offset c) (λ d. Good d.protection × IsSafe rest d)
  IsSafe (Alu op to a b rest) c = IsSafe rest (with_low c to (operation op (low_register c a) (low_register c b)))
  IsSafe (ReadPsp to rest) c = Either (is_privileged_on_msp c) (IsSafe rest (with_low c to c.other_sp)) (Unit {0})
  IsSafe (WritePsp from rest) c = Either (is_privileged_on_msp c) (IsSafe rest (with_psp c (low_register c from))) (Unit {0})
  IsSafe (WriteControl from rest) c =
      OnControl c.protection.handler (is_privileged_on_msp c) (nat_eq (low_register c from / 2 % 2) 1) (low_register c from) c (λ d. Good d.protection × IsSafe rest d)
  IsSafe (Test cond a b if_true if_false rest) c =
      Either (compared cond (low_register c a) (low_register c b)) (IsSafe if_true c) (IsSafe if_false c)
      × OnWent (either (compared cond (low_register c a) (low_register c b)) (effect j i if_true) (effect j i if_false) c) (λ d. IsSafe rest d)
  IsSafe (Repeat left most body rest) c =
      AreTurnsSafe most left (effect j i body) (λ d. IsSafe body d) c × OnWent (turns most left (effect j i body) c) (λ d. IsSafe rest d)
  IsSafe (Halt code rest) c = Unit {0}
  IsSafe (Return rest) c = Unit {0}
  IsSafe (Go to link rest) c = Unit {0}

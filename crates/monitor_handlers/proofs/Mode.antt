-- Lists keep the mode: what begins in Handler mode ends there.
use Rattle.std.proofs.Common.{◌≡◌, ℕ, zero, suc, ◌+◌, ◌<◌, ◌≤◌, Bool, true, false}
use Rattle.machine_devices.specs.declared.image.Image.{Image}
use Rattle.machine_devices.specs.Rules.{ObeysRules}
use Rattle.machine_protection.specs.declared.region.Access.TheVariants.{Fetch}
use Rattle.machine_bus.specs.Locations.{Location, InRam, InFlash, InWindow, Nowhere}
use Rattle.machine_model.specs.declared.answers.Verdict.{Verdict}
use Rattle.machine_model.specs.declared.answers.Verdict.TheVariants.{ToBus, ToSystem, Refused, Bad}
use Rattle.machine_model.specs.declared.state.ProtectionState.{ProtectionState}
use Rattle.machine_model.specs.State.{PermissionTest, by_mpu}
use Rattle.monitor_steps.specs.Steps.{PrivilegedSteps, End, Const, Copy, Load, Store, Alu, ReadPsp, WritePsp, WriteControl, Test, Repeat, Halt, Return, Go}
use Rattle.monitor_steps.specs.Core.{Core, low_register, with_low, with_psp, with_privilege, on_process_stack, is_privileged_on_msp}
use Rattle.monitor_steps.specs.Accesses.{LoadResult, Value, LoadStops, LoadUnclaimed, StoreResult, Written, StoreStops, StoreUnclaimed, store_at, store_by, load, store}
use Rattle.monitor_handlers.specs.Modes.{InMode}
use Rattle.monitor_steps.specs.Effect.{Outcome, Went, Halted, AtReturn, AtBranch, Stopped, Unclaimed, then_do, operation, compared, after_load, after_store, either, by_zero, after_control, with_one_less, turns, effect}
use Rattle.std.specs.Prelude.{◌/◌, ◌%◌, nat_eq}
use Rattle.monitor_laws.proofs.Off.{IsOff, page_while_off}

-- in Handler mode, and the page's code may be fetched
pub record IsGood (i : Image) (q : ProtectionState) : Type 0 where
  pub mode : q.handler ≡ true
  pub fetched : (a : ℕ) → i.flash_base ≤ a → a < i.flash_base + 4096 → by_mpu q Fetch a ≡ true

pub good_while_off : (i : Image) → ObeysRules i → (q : ProtectionState) → IsOff true q → IsGood i q
good_while_off i rules q f = record { mode = f.mode; fetched = λ a lo hi. page_while_off i rules q f.control a hi }

module _ (h : Bool) where
  abbrev Is : Core → Type 0
  Is c = c.protection.handler ≡ h

  abbrev Keeps : (Core → Outcome) → Type 0
  Keeps f = (c : Core) → Is c → InMode h (f c)

  then_keeps : (o : Outcome) (f : Core → Outcome) → InMode h o → Keeps f → InMode h (then_do o f)
  then_keeps (Went d) f a k = k d a
  then_keeps (Halted n d) f a k = a
  then_keeps (AtReturn d) f a k = a
  then_keeps (AtBranch to link d) f a k = a
  then_keeps (Stopped r d) f a k = a
  then_keeps Unclaimed f a k = tt

  either_keeps : (b : Bool) (f g : Core → Outcome) → Keeps f → Keeps g → (c : Core) → Is c → InMode h (either b f g c)
  either_keeps true f g x y c e = x c e
  either_keeps false f g x y c e = y c e

  by_zero_keeps : (n : ℕ) (f g : Core → Outcome) → Keeps f → Keeps g → (c : Core) → Is c → InMode h (by_zero n f g c)
  by_zero_keeps zero f g x y c e = x c e
  by_zero_keeps (suc n) f g x y c e = y c e

  turns_keep : (n left : ℕ) (body : Core → Outcome) → Keeps body → (c : Core) → Is c → InMode h (turns n left body c)
  turns_keep zero left body k c e = by_zero_keeps (low_register c left) Went (λ c. Unclaimed) (λ c e. e) (λ c e. tt) c e
  turns_keep (suc n) left body k c e =
      by_zero_keeps (low_register c left) Went (λ c. then_do (body c) (λ d. turns n left body (with_one_less left d))) (λ c e. e)
      (λ c e. then_keeps (body c) (λ d. turns n left body (with_one_less left d)) (k c e) (λ d a. turns_keep n left body k (with_one_less left d) a)) c e

  load_keeps : (r : LoadResult) (c : Core) (to : ℕ) (f : Core → Outcome) → Is c → Keeps f → InMode h (after_load r c to f)
  load_keeps (Value v) c to f e k = k (with_low c to v) e
  load_keeps (LoadStops r) c to f e k = e
  load_keeps LoadUnclaimed c to f e k = tt

  abbrev IsStored : StoreResult → Type 0
  IsStored (Written d) = Is d
  IsStored (StoreStops r) = Unit {0}
  IsStored StoreUnclaimed = Unit {0}

  at_keeps : (p : Location) (w v : ℕ) (c : Core) → Is c → IsStored (store_at p w v c)
  at_keeps (InRam o) w v c e = e
  at_keeps (InFlash o) w v c e = tt
  at_keeps (InWindow k o) w v c e = tt
  at_keeps Nowhere w v c e = tt

  by_keeps : (x : Verdict) (p : Location) (w a v : ℕ) (c : Core) → Is c → IsStored (store_by x p w a v c)
  by_keeps ToBus p w a v c e = at_keeps p w v c e
  by_keeps ToSystem p w a v c e = e
  by_keeps Refused p w a v c e = tt
  by_keeps (Bad r) p w a v c e = tt

  store_keeps : (r : StoreResult) (c : Core) (f : Core → Outcome) → Is c → IsStored r → Keeps f → InMode h (after_store r c f)
  store_keeps (Written d) c f e s k = k d s
  store_keeps (StoreStops r) c f e s k = e
  store_keeps StoreUnclaimed c f e s k = tt

  control_keeps : (b s p : Bool) (v : ℕ) (c : Core) (f : Core → Outcome) → Is c → Keeps f → InMode h (after_control b s p v c f)
  control_keeps true s p v c f e k = k (with_privilege c v) e
  control_keeps false true true v c f e k = k (with_privilege (on_process_stack c) v) e
  control_keeps false true false v c f e k = tt
  control_keeps false false p v c f e k = tt

  module _ (j : PermissionTest) (i : Image) where
    pub mode_kept : (s : PrivilegedSteps) (c : Core) → Is c → InMode h (effect j i s c)
    mode_kept End c e = e
    mode_kept (Const to n k) c e = mode_kept k (with_low c to n) e
    mode_kept (Copy to from k) c e = mode_kept k (with_low c to (low_register c from)) e
    mode_kept (Load z to base off k) c e = load_keeps (load j i z base off c) c to (effect j i k) e (λ d a. mode_kept k d a)
    mode_kept (Store z from base off k) c e = store_keeps (store j i z from base off c) c (effect j i k) e (by_keeps _ _ _ _ _ c e) (λ d a. mode_kept k d a)
    mode_kept (Alu op to a b k) c e = mode_kept k (with_low c to (operation op (low_register c a) (low_register c b))) e
    mode_kept (ReadPsp to k) c e = either_keeps (is_privileged_on_msp c) (λ c. effect j i k (with_low c to c.other_sp)) (λ c. Unclaimed) (λ c e. mode_kept k (with_low c to c.other_sp) e) (λ c e. tt) c e
    mode_kept (WritePsp from k) c e = either_keeps (is_privileged_on_msp c) (λ c. effect j i k (with_psp c (low_register c from))) (λ c. Unclaimed) (λ c e. mode_kept k (with_psp c (low_register c from)) e) (λ c e. tt) c e
    mode_kept (WriteControl from k) c e = control_keeps c.protection.handler (is_privileged_on_msp c) (nat_eq (low_register c from / 2 % 2) 1) (low_register c from) c (effect j i k) e (λ d a. mode_kept k d a)
    mode_kept (Test cond a b y n k) c e =
        then_keeps (either (compared cond (low_register c a) (low_register c b)) (effect j i y) (effect j i n) c) (effect j i k)
        (either_keeps (compared cond (low_register c a) (low_register c b)) (effect j i y) (effect j i n) (λ d a. mode_kept y d a) (λ d a. mode_kept n d a) c e) (λ d a. mode_kept k d a)
    mode_kept (Repeat left most body k) c e =
        then_keeps (turns most left (effect j i body) c) (effect j i k) (turns_keep most left (effect j i body) (λ d a. mode_kept body d a) c e) (λ d a. mode_kept k d a)
    mode_kept (Halt n k) c e = e
    mode_kept (Return k) c e = e
    mode_kept (Go to link k) c e = e

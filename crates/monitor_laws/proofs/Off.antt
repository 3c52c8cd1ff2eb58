-- The protection unit off: privileged code reaches all, and writes the unit's registers.
use Rattle.std.proofs.Common.{◌≡◌, ℕ, ◌+◌, ◌*◌, ◌/◌, ◌%◌, ◌^◌, ◌<◌, ◌≤◌, ◌⊎◌, inl, inr, Bool, true, false, List, [], ◌∷◌, length, nat_eq, nat_lt, refl, sym, ap, ◌∙◌, subst, arith}
use Rattle.std.proofs.lemmas.Bool.Decides.{nat_tests}
use Rattle.base_words.specs.declared.memory.Width.TheVariants.{Word}
use Rattle.machine_protection.specs.declared.region.Access.TheVariants.{Read, Write, Fetch}
use Rattle.machine_protection.specs.declared.TheConstants.{MPU_CTRL, MPU_RBAR, MPU_RASR}
use Rattle.machine_protection.specs.Registers.{Registers, write_address, write_register}
use Rattle.machine_protection.specs.Protection.{permits}
use Rattle.machine_devices.specs.declared.image.Image.{Image}
use Rattle.machine_devices.specs.Rules.{ObeysRules}
use Rattle.machine_model.specs.declared.state.ProtectionState.{ProtectionState}
use Rattle.machine_model.specs.declared.state.FaultStatus.{FaultStatus}
use Rattle.machine_model.specs.State.{by_mpu, is_unprivileged}
use Rattle.machine_model.specs.System.{in_system, is_system_register, write_status, read_system}
use Rattle.machine_model.proofs.ToSystem.{to_system}
use Rattle.monitor_steps.specs.Steps.{PrivilegedSteps, Load, Store}
use Rattle.monitor_steps.specs.Core.{Core, low_register, with_low, with_system}
use Rattle.monitor_steps.specs.Accesses.{Value, address_of, load}
use Rattle.monitor_steps.specs.Effect.{Outcome}
use Rattle.monitor_steps.specs.Safe.{Rule}
use Rattle.monitor_steps.proofs.Gives.{Open}
use Rattle.monitor_steps.proofs.Within.{GivesWithin, at_within, const_within, value_within, system_within}
use Rattle.monitor_program.specs.Opening.{set_control}

-- a core by its parts
abbrev pub core : (msp psp : ℕ) → ProtectionState → FaultStatus → List ℕ → (a0 a1 a2 a3 a4 a5 a6 a7 : ℕ) → Core
core msp psp p u m a0 a1 a2 a3 a4 a5 a6 a7 =
    record { low = a0 ∷ a1 ∷ a2 ∷ a3 ∷ a4 ∷ a5 ∷ a6 ∷ a7 ∷ []; sp = msp; other_sp = psp; on_psp = false; protection = p; status = u; ram = m }

abbrev pub with_unit : ProtectionState → Registers → ProtectionState
with_unit p m = record p { mpu = m }

-- in Handler mode or not, privileged, with the unit off
pub record IsOff (handler : Bool) (p : ProtectionState) : Type 0 where
  pub mode : p.handler ≡ handler
  pub privileged : is_unprivileged p ≡ false
  pub control : p.mpu.control ≡ 0

pub open_while_off : (p : ProtectionState) → p.mpu.control ≡ 0 → Open by_mpu p
unfolding by_mpu permits
open_while_off p e = record { reads = λ a. rw e refl; writes = λ a. rw e refl }

fetched_while_off : (p : ProtectionState) (a : ℕ) → p.mpu.control ≡ 0 → a < 0x40000000 → by_mpu p Fetch a ≡ true
unfolding by_mpu permits
fetched_while_off p a e lt = let l : nat_lt a 0x40000000 ≡ true = search (nat_tests, arith) in rw (e, l) refl

pub page_while_off : (i : Image) → ObeysRules i → (p : ProtectionState) → p.mpu.control ≡ 0 → (a : ℕ) → a < i.flash_base + 4096 → by_mpu p Fetch a ≡ true
page_while_off i rules p e a h = fetched_while_off p a e (let f = rules.flash_highest in omega (arith, h, f))

-- which accesses a list may make, whatever its core
pub record Allows (i : Image) (Allowed : Rule) (handler : Bool) : Type 0 where
  pub flash : (c : Core) (w o : ℕ) → o + w ≤ length i.flash → Allowed Read c w (i.flash_base + o)
  pub system : (c : Core) (a : ℕ) → c.protection.handler ≡ handler → a % 4 ≡ 0 → in_system a ≡ true → Allowed Write c 4 a

pub control_written : (v : ℕ) (m : Registers) → write_register MPU_CTRL v m ≡ record m { control = v % 8 }
unfolding write_register
control_written v m = refl

-- a register of the system into a register
pub system_load_within : {i : Image} {Good : ProtectionState → Type 0} {Allowed : Rule} (a : ℕ) {n to base off : ℕ} {k : PrivilegedSteps} {ks : List PrivilegedSteps} {c : Core} {Q : Outcome → Type 0} → is_unprivileged c.protection ≡ false → low_register c base + 4 * off ≡ a → a % 4 ≡ 0 → a < 2 ^ 32 → in_system a ≡ true → is_system_register a ≡ true → Allowed Read c 4 a →
    GivesWithin by_mpu i Good Allowed n k ks (with_low c to (read_system a c.protection c.status)) Q → GivesWithin by_mpu i Good Allowed (1 + n) (Load Word to base off k) ks c Q
system_load_within {i} {Good} {Allowed} a {n} {to} {base} {off} {k} {ks} {c} {Q} u e al lt s r ok w =
    let q : address_of c 4 base off ≡ a = omega (arith, e, lt) in
    let v = to_system by_mpu c.protection Read a al s u r in
    let l : load by_mpu i Word base off c ≡ Value (read_system a c.protection c.status) = rw (q, v) refl in
    value_within (read_system a c.protection c.status) {z = Word} l (subst (λ a. Allowed Read c 4 a) (sym q) ok) w

-- the unit's registers are none of the status of faults
pub status_stays : (a v : ℕ) (u : FaultStatus) → (a ≡ MPU_CTRL) ⊎ ((a ≡ MPU_RBAR) ⊎ (a ≡ MPU_RASR)) → write_status a v u ≡ u
unfolding write_status
status_stays a v u (inl e) = rw e refl
status_stays a v u (inr (inl e)) = rw e refl
status_stays a v u (inr (inr e)) = rw e refl

rbar_keeps : (b : Bool) (v : ℕ) (m : Registers) → (write_address b m v).control ≡ m.control
rbar_keeps true v m = refl
rbar_keeps false v m = refl

pub rbar_control : (v : ℕ) (m : Registers) → (write_register MPU_RBAR v m).control ≡ m.control
unfolding write_register
rbar_control v m = rbar_keeps (nat_eq (v / 2 ^ 4 % 2) 1) v m

pub rasr_control : (v : ℕ) (m : Registers) → (write_register MPU_RASR v m).control ≡ m.control
unfolding write_register
rasr_control v m = refl

module _ (i : Image) (rules : ObeysRules i) (Good : ProtectionState → Type 0) (Allowed : Rule) (h : Bool) (allows : Allows i Allowed h) (good : (q : ProtectionState) → IsOff h q → Good q) where
  abbrev pub Within : ℕ → PrivilegedSteps → List PrivilegedSteps → Core → (Outcome → Type 0) → Type 0
  Within n s ks c Q = GivesWithin by_mpu i Good Allowed n s ks c Q

  -- a register of the unit that leaves MPU_CTRL as it is
  pub unit_within : (a : ℕ) {n from base off : ℕ} {k : PrivilegedSteps} {ks : List PrivilegedSteps} {c : Core} {Q : Outcome → Type 0} → low_register c base + 4 * off ≡ a → a % 4 ≡ 0 → a < 2 ^ 32 → in_system a ≡ true → is_system_register a ≡ true → IsOff h c.protection →
      write_status a (low_register c from) c.status ≡ c.status → (write_register a (low_register c from) c.protection.mpu).control ≡ c.protection.mpu.control →
      ((q : ProtectionState) → q ≡ with_unit c.protection (write_register a (low_register c from) c.protection.mpu) → IsOff h q → Within n k ks (record c { protection = q }) Q) →
      Within (1 + n) (Store Word from base off k) ks c Q
  unit_within a {n} {from} {base} {off} {k} {ks} {c} {Q} e al lt s r o st co f =
      let q : ProtectionState = with_unit c.protection (write_register a (low_register c from) c.protection.mpu) in
      let off1 : IsOff h q = record { mode = o.mode; privileged = o.privileged; control = co ∙ o.control } in
      system_within a o.privileged e al lt s r (allows.system c a o.mode al s) (good q off1)
      (at_within (ap (λ u. record c { protection = q; status = u }) st) (f q refl off1))

  module _ {msp psp : ℕ} {u : FaultStatus} where
    -- MPU_CTRL, by r6 and r7
    pub set_control_within : {n : ℕ} {k : PrivilegedSteps} {ks : List PrivilegedSteps} {Q : Outcome → Type 0} (v : ℕ) {p : ProtectionState} {m : List ℕ} {a0 a1 a2 a3 a4 a5 a6 a7 : ℕ} → p.handler ≡ h → is_unprivileged p ≡ false → v < 8 → Good (with_unit p (record p.mpu { control = v })) →
        ((q : ProtectionState) → q ≡ with_unit p (record p.mpu { control = v }) → Within n k ks (core msp psp q u m a0 a1 a2 a3 a4 a5 MPU_CTRL v) Q) →
        Within (2 + (2 + (1 + n))) (set_control 6 7 v k) ks (core msp psp p u m a0 a1 a2 a3 a4 a5 a6 a7) Q
    set_control_within {n} {k} {ks} {Q} v {p} {m} {a0} {a1} {a2} {a3} {a4} {a5} mode priv lt ok f =
        let c1 : Core = core msp psp p u m a0 a1 a2 a3 a4 a5 MPU_CTRL v in
        let q : ProtectionState = with_unit p (record p.mpu { control = v }) in
        let small : v % 8 ≡ v = omega arith in
        let e : write_register MPU_CTRL v p.mpu ≡ record p.mpu { control = v } = control_written v p.mpu ∙ ap (λ v. record p.mpu { control = v }) small in
        let same : with_system c1 MPU_CTRL v ≡ core msp psp q u m a0 a1 a2 a3 a4 a5 MPU_CTRL v =
        ap (λ r. record c1 { protection = with_unit p r; status = write_status MPU_CTRL v u }) e ∙ ap (λ s. record c1 { protection = q; status = s }) (status_stays MPU_CTRL v u (inl refl)) in
        const_within (const_within
        (system_within MPU_CTRL priv refl refl (omega arith) refl refl (allows.system _ MPU_CTRL mode refl refl) (subst Good (ap (λ c. c.protection) (sym same)) ok)
        (at_within same (f q refl))))

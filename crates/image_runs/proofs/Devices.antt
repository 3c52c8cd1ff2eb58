-- Each byte of devices that a compartment's instruction loads or stores lies in one of its slots.
use Rattle.std.proofs.Common.{◌≡◌, ℕ, ◌+◌, ◌*◌, ◌<◌, ◌≤◌, ◌⊎◌, ⊎_elim, true, ap, arith}
use Rattle.machine_protection.specs.declared.region.Region.{Region}
use Rattle.machine_protection.specs.declared.region.Access.{Access}
use Rattle.machine_protection.specs.declared.region.Access.TheVariants.{Read, Write}
use Rattle.machine_protection.specs.Regions.{holds}
use Rattle.machine_protection.specs.Laws.{RegionsHoldTheirBlocks}
use Rattle.machine_protection.specs.Configured.{KeptListsPermit}
use Rattle.machine_devices.specs.declared.image.Image.{Image}
use Rattle.machine_model.specs.State.{State, Touched, by_mpu}
use Rattle.machine_model.specs.Step.{turn}
use Rattle.machine_model.specs.Exceptions.{vector_offset, mem_manage, supervisor_call}
use Rattle.machine_model.specs.Confinement.{AnyOf, IsVectorRead}
use Rattle.machine_model.specs.ThreadStep.{IsReached, UnprivilegedAccessesAreReached}
use Rattle.base_laws.specs.Lists.{Each}
use Rattle.base_laws.proofs.Lists.{each_to}
use Rattle.monitor_model.specs.declared.tables.Tables.{Tables}
use Rattle.monitor_model.specs.Placed.{Placed}
use Rattle.monitor_model.specs.Block.{MonitorBlock}
use Rattle.monitor_model.specs.Invariant.{InvariantHolds}
use Rattle.monitor_model.specs.Reach.{AllBytes, running}
use Rattle.monitor_model.specs.Confined.{later}
use Rattle.monitor_model.proofs.Invariants.{runs_unprivileged}
use Rattle.monitor_runs.specs.Stays.{KeepsMemory}
use Rattle.monitor_runs.proofs.Windows.{read_by_slot}
use Rattle.image_runs.specs.Denied.{DevicesAreInSlots}

-- what an act's accesses rest on
pub record DeviceLaws : Type 0 where
  pub permit : KeptListsPermit
  pub held : RegionsHoldTheirBlocks
  pub accesses : UnprivilegedAccessesAreReached

module _ (laws : DeviceLaws) (i : Image) (t : Tables) (p : Placed i t) (first : State) (keeps : KeepsMemory i t first) where
  abbrev at : ℕ → State
  at n = later i t first n

  abbrev InSlots : State → ℕ → Type 0
  InSlots s a = 0x40000000 ≤ a → AnyOf (λ (g : Region). holds g a ≡ true) (running i t s).slots

  module _ (m : MonitorBlock) (s : State) (h : InvariantHolds i t m s) where
    reached : (kind : Access) (x : Touched) → IsReached i s.protection.mpu kind x → AllBytes (InSlots s) x
    reached kind x y k lt high = read_by_slot laws.permit laws.held i t p (x.address + k) high m s h kind (y.permitted k lt)

    vector : (n : ℕ) → n < 16 → (x : Touched) → x ≡ record { width = 4; address = i.flash_base + vector_offset n } → AllBytes (InSlots s) x
    vector n few x e k lt high =
        let width : x.width ≡ 4 = ap (λ (y : Touched). y.width) e in
        let is : x.address ≡ i.flash_base + 4 * n = ap (λ (y : Touched). y.address) e in
        let low = p.rules.flash_highest in
        absurd (omega (arith, width, is, lt, few, low, high))

    loaded : Each (AllBytes (InSlots s)) (turn by_mpu i s).loads
    loaded =
        each_to (λ x. IsReached i s.protection.mpu Read x ⊎ IsVectorRead i x) (AllBytes (InSlots s)) (turn by_mpu i s).loads
        (λ x z. ⊎_elim (λ q. reached Read x q) (λ v. ⊎_elim (λ e. vector mem_manage (omega arith) x e) (λ e. vector supervisor_call (omega arith) x e) v) z)
        (laws.accesses i s (runs_unprivileged h.inv) h.fits.core.sp_aligned).loads

    stored : Each (AllBytes (InSlots s)) (turn by_mpu i s).stores
    stored = each_to (IsReached i s.protection.mpu Write) (AllBytes (InSlots s)) (turn by_mpu i s).stores (λ x q. reached Write x q) (laws.accesses i s (runs_unprivileged h.inv) h.fits.core.sp_aligned).stores

  pub in_slots : DevicesAreInSlots i t first
  in_slots = record {
    loads = λ n x. let h = keeps.invariant n x in loaded h.0 (at n) h.1;
    stores = λ n x. let h = keeps.invariant n x in stored h.0 (at n) h.1;
  }

-- Beyond the program's claim: only laws, proofs and functions inside the tool cite this file.
-- What the protection unit lets unprivileged code reach where the invariant holds, whatever it executes.
use Rattle.std.specs.Prelude.{◌≡◌, ℕ, ◌+◌, ◌<◌, ◌≤◌, ◌⊎◌, true}
use Rattle.machine_protection.specs.declared.region.Region.{Region}
use Rattle.machine_protection.specs.declared.region.Access.TheVariants.{Read, Write, Fetch}
use Rattle.machine_protection.specs.Regions.{holds, permission}
use Rattle.machine_protection.specs.Protection.{permits}
use Rattle.machine_devices.specs.declared.image.Image.{Image}
use Rattle.machine_model.specs.State.{State}
use Rattle.machine_model.specs.Confinement.{AnyOf}
use Rattle.monitor_model.specs.declared.tables.Tables.{Tables}
use Rattle.monitor_model.specs.Placed.{Placed, InFlashOf}
use Rattle.monitor_model.specs.Block.{MonitorBlock}
use Rattle.monitor_model.specs.Invariant.{InvariantHolds}
use Rattle.monitor_model.specs.Reach.{running, InOpenStack}

module _ (i : Image) (t : Tables) (s : State) where
  -- some slot of CUR that all may write, or the stack below TOP
  abbrev pub IsWritten : (address : ℕ) → Type 0
  IsWritten a = AnyOf (λ (g : Region). (holds g a ≡ true) × (permission g ≡ 3)) (running i t s).slots ⊎ InOpenStack i t s a

  -- some slot of CUR, the stack below TOP, or the mebibyte of flash
  abbrev pub IsRead : (address : ℕ) → Type 0
  IsRead a =
      AnyOf (λ (g : Region). holds g a ≡ true) (running i t s).slots
      ⊎ (InOpenStack i t s a ⊎ ((i.flash_base ≤ a) × (a < i.flash_base + 0x100000)))

  pub record Reaches : Type 0 where
    pub stores : (a : ℕ) → permits s.protection.mpu true Write a ≡ true → IsWritten a
    pub loads : i.closed ≡ true → (a : ℕ) → permits s.protection.mpu true Read a ≡ true → IsRead a
    pub fetches : (a : ℕ) → permits s.protection.mpu true Fetch a ≡ true → InFlashOf i a

abbrev pub ThreadsReach : Type 0
ThreadsReach = (i : Image) (t : Tables) (m : MonitorBlock) (s : State) → Placed i t → InvariantHolds i t m s → Reaches i t s

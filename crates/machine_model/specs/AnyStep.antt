-- Beyond the program's claim: only laws, proofs and functions inside the tool cite this file.
-- What a step of any mode and privilege changes of memory and of the system's registers: its lists are complete.
use Rattle.std.specs.Prelude.{◌≡◌, ℕ, ◌⊎◌, true}
use Rattle.std.proofs.Math.ListN.{get_or}
use Rattle.machine_devices.specs.declared.image.Image.{Image}
use Rattle.machine_model.specs.State.{State, Touched, Turn, PermissionTest}
use Rattle.machine_model.specs.System.{in_system}
use Rattle.machine_model.specs.Step.{turn}
use Rattle.machine_model.specs.Confinement.{AnyOf, Misses, HasEntered}
use Rattle.base_laws.specs.Lists.{Each}

-- a store to the private peripheral bus is listed
abbrev pub ListsSystemStore : Turn → Type 0
ListsSystemStore t = AnyOf (λ (x : Touched). in_system x.address ≡ true) t.stores

pub record AnyStep (i : Image) (s : State) (t : Turn) : Type 0 where
  -- bytes outside the listed stores stay
  pub ram : (k : ℕ) → Each (Misses i k) t.stores → get_or t.to.ram k 0 ≡ get_or s.ram k 0
  -- the unit and the status change by a listed store, the status by an entry too
  pub unit : (t.to.protection.mpu ≡ s.protection.mpu) ⊎ ListsSystemStore t
  pub status : (t.to.status ≡ s.status) ⊎ (HasEntered s t ⊎ ListsSystemStore t)

abbrev pub StoresAreListed : Type 0
StoresAreListed = (j : PermissionTest) (i : Image) (s : State) → AnyStep i s (turn j i s)

-- Beyond the program's claim: only laws, proofs and functions inside the tool cite this file.
-- What a thread's step does where the invariant holds, whatever it executes.
use Rattle.std.specs.Prelude.{◌≡◌, ℕ, ◌<◌, true, None}
use Rattle.machine_devices.specs.declared.image.Image.{Image}
use Rattle.machine_model.specs.declared.state.FaultStatus.{FaultStatus}
use Rattle.machine_model.specs.declared.state.End.{End}
use Rattle.machine_model.specs.State.{State, by_mpu, ends}
use Rattle.machine_model.specs.Exceptions.{is_frame_open}
use Rattle.machine_model.specs.Step.{turn}
use Rattle.base_laws.specs.Lists.{Each}
use Rattle.monitor_model.specs.declared.tables.Tables.{Tables}
use Rattle.monitor_model.specs.Placed.{Placed}
use Rattle.monitor_model.specs.Block.{MonitorBlock}
use Rattle.monitor_model.specs.Invariant.{InvariantHolds}
use Rattle.monitor_model.specs.Reach.{AllBytes, StoreKind, LoadKind}
use Rattle.monitor_model.specs.Confined.{IsProtected, IsSvc}
use Rattle.monitor_model.specs.Handlers.{IsFault, at_svc, at_memfault}

-- what a confined run asks of each step of a thread
pub record IsStepConfined (i : Image) (t : Tables) (s : State) : Type 0 where
  pub protection : IsProtected i t s
  pub stores : Each (AllBytes (StoreKind i t s)) (turn by_mpu i s).stores
  pub loads : i.closed ≡ true → Each (AllBytes (LoadKind i t s)) (turn by_mpu i s).loads

-- where a thread's step leads
pub data LeadsOn (i : Image) (t : Tables) (m : MonitorBlock) (s : State) : Type 0 where
  -- the machine ends, and nothing else changes
  Ends : (e : End) → turn by_mpu i s ≡ ends e s → LeadsOn i t m s
  -- the thread goes on, and the block's lists are the same
  Goes : InvariantHolds i t m (turn by_mpu i s).to → (turn by_mpu i s).to.ending ≡ None → LeadsOn i t m s
  -- to a handler's first instruction
  Calls : (n : ℕ) → n < 256 → IsSvc i t n s → is_frame_open by_mpu i s ≡ true → (turn by_mpu i s).to ≡ at_svc i s → LeadsOn i t m s
  Faults : (u : FaultStatus) → IsFault i s u → is_frame_open by_mpu i s ≡ true → (turn by_mpu i s).to ≡ at_memfault i u s → LeadsOn i t m s

abbrev pub ThreadStepsAreConfined : Type 0
ThreadStepsAreConfined = (i : Image) (t : Tables) (m : MonitorBlock) (s : State) → Placed i t → InvariantHolds i t m s → IsStepConfined i t s

abbrev pub ThreadStepsLead : Type 0
ThreadStepsLead =
    (i : Image) (t : Tables) (m : MonitorBlock) (s : State) → Placed i t → InvariantHolds i t m s → s.ending ≡ None → LeadsOn i t m s

-- Beyond the program's claim: only laws, proofs and functions inside the tool cite this file.
-- What confinement asks of the handlers, from the monitor's law.
use Rattle.std.specs.Prelude.{◌≡◌, ℕ, ◌<◌, true, None}
use Rattle.machine_devices.specs.declared.image.Image.{Image}
use Rattle.machine_model.specs.declared.state.FaultStatus.{FaultStatus}
use Rattle.machine_model.specs.State.{State, by_mpu}
use Rattle.machine_model.specs.Exceptions.{is_frame_open}
use Rattle.monitor_model.specs.declared.tables.Tables.{Tables}
use Rattle.monitor_model.specs.Block.{MonitorBlock}
use Rattle.monitor_model.specs.Invariant.{InvariantHolds}
use Rattle.monitor_model.specs.Confined.{IsSvc}
use Rattle.monitor_model.specs.Handlers.{IsFault, Handled, HandlersAreConfined, at_svc, at_memfault}
use Rattle.monitor_model.specs.Placed.{Placed}
use Rattle.monitor_model.specs.MonitorLaw.{MonitorLaw}

-- of the handler of MemManage
abbrev pub FaultsAreHandled : Type 0
FaultsAreHandled =
    (i : Image) (t : Tables) (stub : ℕ) → MonitorLaw i t stub →
    (s : State) (m : MonitorBlock) (u : FaultStatus) → InvariantHolds i t m s → s.ending ≡ None → IsFault i s u → is_frame_open by_mpu i s ≡ true →
    Handled i t s (at_memfault i u s) m

-- of the handler of SVC: enter, leave, lend, unlend, and numbers that no SVC of the monitor has
abbrev pub CallsAreHandled : Type 0
CallsAreHandled =
    (i : Image) (t : Tables) (stub : ℕ) → Placed i t → MonitorLaw i t stub →
    (s : State) (m : MonitorBlock) (n : ℕ) → InvariantHolds i t m s → s.ending ≡ None → n < 256 → IsSvc i t n s → is_frame_open by_mpu i s ≡ true →
    Handled i t s (at_svc i s) m

-- of both, where the tables are placed
abbrev pub PlacedLawsConfine : Type 0
PlacedLawsConfine = (i : Image) (t : Tables) (stub : ℕ) → Placed i t → MonitorLaw i t stub → HandlersAreConfined i t

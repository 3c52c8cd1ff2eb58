-- Beyond the program's claim: only laws, proofs and functions inside the tool cite this file.
-- The half of the monitor's law that speaks of MemManage.
use Rattle.std.specs.Prelude.{◌≡◌, ℕ, true, None}
use Rattle.machine_devices.specs.declared.image.Image.{Image}
use Rattle.machine_model.specs.declared.state.FaultStatus.{FaultStatus}
use Rattle.machine_model.specs.State.{State, by_mpu}
use Rattle.machine_model.specs.Exceptions.{is_frame_open, frame_at}
use Rattle.machine_model.specs.Code.{HoldsHalf}
use Rattle.monitor_model.specs.declared.tables.Tables.{Tables}
use Rattle.monitor_model.specs.Block.{MonitorBlock}
use Rattle.monitor_model.specs.Invariant.{InvariantHolds}
use Rattle.monitor_model.specs.Handlers.{at_memfault, IsFault, Leads}
use Rattle.monitor_model.specs.FaultOutcome.{fault_outcome}
use Rattle.monitor_model.specs.MonitorLaw.{Shows, memfault_steps}

-- from any thread state of the invariant whose frame was pushed, the handler of MemManage comes to its outcome
abbrev pub FaultLaw : Image → Tables → Type 0
FaultLaw i t =
    (s : State) (m : MonitorBlock) (u : FaultStatus) (half : ℕ) → InvariantHolds i t m s → s.ending ≡ None → IsFault i s u →
    (u.cfsr ≡ 0x82 → HoldsHalf i s.core.pc half) → is_frame_open by_mpu i s ≡ true →
    let from : State = at_memfault i u s in
    Leads i t s memfault_steps from (Shows i t (fault_outcome i t m (frame_at s.core.sp) from.ram u.cfsr half) s m from.ram)

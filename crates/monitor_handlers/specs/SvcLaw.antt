-- Beyond the program's claim: only laws, proofs and functions inside the tool cite this file.
-- The half of the monitor's law that speaks of SVC.
use Rattle.std.specs.Prelude.{◌≡◌, ℕ, ◌<◌, true, None}
use Rattle.machine_devices.specs.declared.image.Image.{Image}
use Rattle.machine_model.specs.State.{State, by_mpu}
use Rattle.machine_model.specs.Exceptions.{is_frame_open, frame_at}
use Rattle.monitor_model.specs.declared.tables.Tables.{Tables}
use Rattle.monitor_model.specs.Block.{MonitorBlock}
use Rattle.monitor_model.specs.Confined.{IsSvc}
use Rattle.monitor_model.specs.Invariant.{InvariantHolds}
use Rattle.monitor_model.specs.Handlers.{at_svc, Leads}
use Rattle.monitor_model.specs.SvcOutcome.{svc_outcome}
use Rattle.monitor_model.specs.MonitorLaw.{Shows, svc_steps}

-- from any thread state of the invariant whose frame was pushed, the handler of SVC comes to its outcome
abbrev pub SvcLaw : Image → Tables → (stub : ℕ) → Type 0
SvcLaw i t stub =
    (s : State) (m : MonitorBlock) (n : ℕ) → InvariantHolds i t m s → s.ending ≡ None → n < 256 → IsSvc i t n s → is_frame_open by_mpu i s ≡ true →
    let from : State = at_svc i s in
    Leads i t s (svc_steps n) from (Shows i t (svc_outcome i t stub m (frame_at s.core.sp) from.ram n) s m from.ram)

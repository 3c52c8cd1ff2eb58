-- Beyond the program's claim: only laws, proofs and functions inside the tool cite this file.
-- Whole runs, as far as they follow from what confinement asks of the handlers.
use Rattle.std.specs.Prelude.{◌≡◌, ℕ, ◌%◌}
use Rattle.machine_devices.specs.declared.image.Image.{Image}
use Rattle.machine_model.specs.State.{State}
use Rattle.monitor_model.specs.declared.tables.Tables.{Tables}
use Rattle.monitor_model.specs.Area.{HasTables}
use Rattle.monitor_model.specs.Placed.{Placed}
use Rattle.monitor_model.specs.Block.{MonitorBlock}
use Rattle.monitor_model.specs.Invariant.{IsOrderly, InvariantHolds}
use Rattle.monitor_model.specs.Confined.{StartUp, RunIsConfined, Confined, later}
use Rattle.monitor_model.specs.Handlers.{Change, HandlersAreConfined}
use Rattle.monitor_model.specs.Starts.{Starts}

-- the block stays orderly
abbrev pub ChangesKeepOrder : Type 0
ChangesKeepOrder =
    (i : Image) (t : Tables) (s u : State) (m n : MonitorBlock) → Placed i t → s.core.sp % 4 ≡ 0 → IsOrderly t m → Change i t s u m n → IsOrderly t n

-- a run that comes to the invariant
abbrev pub HandlersConfineRuns : Type 0
HandlersConfineRuns =
    (i : Image) (t : Tables) (first : State) (m : MonitorBlock) → Placed i t → HandlersAreConfined i t →
    (start_up : StartUp i t first) → InvariantHolds i t m (later i t first start_up.count) → RunIsConfined i t first

-- an image whose start-up leads to the invariant
abbrev pub HandlersConfineImages : Type 0
HandlersConfineImages =
    (i : Image) (t : Tables) (stub : ℕ) → Placed i t → HasTables i t → Starts i t stub → HandlersAreConfined i t → Confined i t

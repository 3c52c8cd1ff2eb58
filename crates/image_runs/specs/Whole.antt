-- The monitor's law, start-up's, the invariant of each act, and who runs, of the image of every planned firmware: statements of laws.
use Rattle.std.specs.Prelude.{ℕ}
use Rattle.machine_devices.specs.declared.image.Image.{Image}
use Rattle.machine_model.specs.State.{State}
use Rattle.machine_model.specs.Reset.{EachRun}
use Rattle.monitor_model.specs.declared.tables.Tables.{Tables}
use Rattle.monitor_program.specs.Page.{stub_address}
use Rattle.monitor_model.specs.MonitorLaw.{MonitorLaw}
use Rattle.monitor_model.specs.Starts.{Starts}
use Rattle.monitor_model.specs.Block.{MonitorBlock}
use Rattle.monitor_model.specs.Confined.{later}
use Rattle.monitor_model.specs.Invariant.{InvariantHolds}
use Rattle.image_promises.specs.Laws.{OfPlanned}
use Rattle.monitor_runs.specs.Acts.{Acts}
use Rattle.monitor_runs.specs.Runs.{TellsWhoRuns}

abbrev pub PlannedImagesKeepTheLaw : Type 0
PlannedImagesKeepTheLaw = OfPlanned (λ i t. MonitorLaw i t (stub_address t))

abbrev pub PlannedImagesStart : Type 0
PlannedImagesStart = OfPlanned (λ i t. Starts i t (stub_address t))

-- in each run, whenever a compartment's instruction comes next, the monitor's block has some lists, which are orderly, and the unit's
-- registers are those of CUR and TOP
abbrev pub KeepsTheInvariant : Image → Tables → Type 0
KeepsTheInvariant i t = EachRun i (λ (first : State). (n : ℕ) → Acts i t first n → (m : MonitorBlock) × InvariantHolds i t m (later i t first n))

abbrev pub PlannedImagesKeepTheInvariant : Type 0
PlannedImagesKeepTheInvariant = OfPlanned KeepsTheInvariant

abbrev pub PlannedImagesTellWhoRuns : Type 0
PlannedImagesTellWhoRuns = OfPlanned TellsWhoRuns

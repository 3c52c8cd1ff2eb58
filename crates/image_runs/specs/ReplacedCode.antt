-- Beyond the program's claim: only laws, proofs and functions inside the tool cite this file.
-- The image of a planned firmware with other code in a compartment; and what is promised of sound and of planned images with other code:
-- statements of laws.
use Rattle.std.specs.Prelude.{ℕ, ◌-◌, ◌<◌, List}
use Rattle.base_words.specs.Bytes.{write_all}
use Rattle.machine_devices.specs.declared.image.Image.{Image}
use Rattle.ir_model.specs.Plain.{PlainFirmware}
use Rattle.plan_model.specs.declared.needs.Needs.{Needs}
use Rattle.plan_model.specs.declared.graph.Final.{Final}
use Rattle.plan_model.specs.declared.plan.Board.{Board}
use Rattle.plan_model.specs.declared.plan.Plan.{Plan}
use Rattle.plan_model.specs.Placement.{compartment_spot}
use Rattle.monitor_model.specs.declared.tables.Tables.{Tables}
use Rattle.monitor_program.specs.Page.{filled_up}
use Rattle.monitor_model.specs.Confined.{Confined}
use Rattle.monitor_model.specs.Promises.{OfSoundImages}
use Rattle.monitor_program.specs.TheCode.{monitor_code}
use Rattle.image_promises.specs.Planned.{planned_tables, planned_image}
use Rattle.plan.specs.PlannedFirmwares.{IsPlanned, plan}
use Rattle.image_promises.specs.Laws.{OfPlanned}
use Rattle.machine_model.specs.Reset.{EachRun}
use Rattle.monitor_runs.specs.Runs.{TellsWhoRuns}
use Rattle.monitor_runs.specs.Stays.{KeepsMemory}
use Rattle.image_runs.specs.Isolated.{IsIsolated}
use Rattle.image_runs.specs.OtherCode.{KeepsTables, WithOtherCode}

-- flash with this code in the block of a compartment, and with the rest of the block erased
abbrev pub with_block : Plan → (flash_base : ℕ) → (compartment : ℕ) → (code flash : List ℕ) → List ℕ
with_block l base c code flash = write_all 1 ((compartment_spot l c).base - base) (filled_up (compartment_spot l c).size code) flash

-- whatever is written into the block of a compartment, and behind it, leaves the tables as they are: they end in front of all code
abbrev pub CodeKeepsTables : Type 0
CodeKeepsTables =
    (w : PlainFirmware) (n : Needs) (f : Final) (b : Board) → IsPlanned w n f b → (c : ℕ) (code : List ℕ) → c < f.groups.count
    → KeepsTables (planned_image w n f b) (planned_tables w n f b) (with_block (plan w n f b) b.flash_base c code (planned_image w n f b).flash)

-- what every image has of one kind, whatever bytes stand in flash behind its tables: it is confined by them, it tells who runs, and each of
-- its runs keeps memory
pub record AllWithOtherCode (Of : (Image → Tables → Type 0) → Type 0) : Type 0 where
  pub confined : Of (WithOtherCode Confined)
  pub moves : Of (WithOtherCode TellsWhoRuns)
  pub memory : Of (WithOtherCode (λ (j : Image) (u : Tables). EachRun j (KeepsMemory j u)))

-- all sound images keep these promises, and so do the images of all planned firmwares
abbrev pub SoundImagesKeepPromises : Type 0
SoundImagesKeepPromises = AllWithOtherCode (OfSoundImages monitor_code)

abbrev pub PlannedImagesKeepPromises : Type 0
PlannedImagesKeepPromises = AllWithOtherCode OfPlanned

-- and each run of the image of a planned firmware is isolated: who changes which bytes, and who accesses which peripherals
abbrev pub PlannedImagesStayIsolated : Type 0
PlannedImagesStayIsolated =
    (w : PlainFirmware) (n : Needs) (f : Final) (b : Board) → IsPlanned w n f b
    → WithOtherCode (λ (j : Image) (u : Tables). EachRun j (IsIsolated w n f b j u)) (planned_image w n f b) (planned_tables w n f b)

-- Sound images keep their promises with other code, and planned images, which are sound, keep them too.
use Rattle.std.proofs.Common.{ℕ, List}
use Rattle.machine_devices.specs.declared.image.Image.{Image}
use Rattle.machine_devices.specs.Rules.{ObeysRules}
use Rattle.ir_model.specs.Plain.{PlainFirmware}
use Rattle.plan_model.specs.declared.plan.Board.{Board}
use Rattle.monitor_model.specs.declared.tables.Tables.{Tables}
use Rattle.monitor_model.specs.Confined.{Confined}
use Rattle.monitor_model.specs.Promises.{OfSoundImages, SoundImagesAreConfined}
use Rattle.monitor_program.specs.TheCode.{monitor_code}
use Rattle.image_promises.specs.Laws.{OfPlanned}
use Rattle.image_promises.specs.Planned.{planned_image, planned_tables}
use Rattle.image_promises.specs.Whole.{IsForBoard, PlannedImagesAreForBoards, PlannedImagesAreSound}
use Rattle.machine_model.specs.Reset.{EachRun}
use Rattle.monitor_runs.specs.Runs.{TellsWhoRuns}
use Rattle.monitor_runs.specs.Stays.{KeepsMemory}
use Rattle.image_runs.specs.Isolated.{KeptRunsAreIsolated}
use Rattle.image_runs.specs.OtherCode.{with_flash}
use Rattle.image_runs.specs.Laws.{RulesStay, SoundImagesStaySound}
use Rattle.image_runs.proofs.CodeStays.{with_other_code}
use Rattle.image_runs.specs.ReplacedCode.{SoundImagesKeepPromises, PlannedImagesKeepPromises, PlannedImagesStayIsolated}

pub of_sound_images : SoundImagesStaySound → SoundImagesAreConfined monitor_code → OfSoundImages monitor_code TellsWhoRuns
    → OfSoundImages monitor_code (λ (i : Image) (t : Tables). EachRun i (KeepsMemory i t)) → SoundImagesKeepPromises
of_sound_images stay confined tell memory =
    record {
      confined = with_other_code Confined stay confined;
      moves = with_other_code TellsWhoRuns stay tell;
      memory = with_other_code (λ (i : Image) (t : Tables). EachRun i (KeepsMemory i t)) stay memory;
    }

planned : (P : Image → Tables → Type 0) → PlannedImagesAreSound → OfPlanned (λ i t. ObeysRules i) → OfSoundImages monitor_code P → OfPlanned P
planned P sound rules law w n f b is = law (planned_image w n f b) (planned_tables w n f b) (rules w n f b is) (sound w n f b is)

pub of_planned_images : PlannedImagesAreSound → OfPlanned (λ i t. ObeysRules i) → SoundImagesKeepPromises → PlannedImagesKeepPromises
of_planned_images sound rules keep =
    record {
      confined = planned _ sound rules keep.confined;
      moves = planned _ sound rules keep.moves;
      memory = planned _ sound rules keep.memory;
    }

-- other bytes in flash leave the rest of an image
pub board_stays : (w : PlainFirmware) (b : Board) (i : Image) (flash : List ℕ) → IsForBoard w b i → IsForBoard w b (with_flash i flash)
board_stays w b i flash x =
    record { windows = x.windows; flash_base = x.flash_base; ram_base = x.ram_base; ram_size = x.ram_size; stack_size = x.stack_size; regions = x.regions; closed = x.closed }

pub stay_isolated : RulesStay → OfPlanned (λ i t. ObeysRules i) → PlannedImagesAreForBoards → PlannedImagesKeepPromises → KeptRunsAreIsolated → PlannedImagesStayIsolated
stay_isolated stay rules boards keep isolated w n f b is flash keeps queues first reset =
    isolated w n f b is (with_flash (planned_image w n f b) flash)
    (stay (planned_image w n f b) flash (rules w n f b is) keeps.as_long)
    (board_stays w b (planned_image w n f b) flash (boards w n f b is))
    first (keep.memory w n f b is flash keeps queues first reset)

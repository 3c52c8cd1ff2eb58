-- What holds of the image of every planned firmware, with the monitor's own code: statements of laws.
use Rattle.std.specs.Prelude.{◌≡◌}
use Rattle.machine_devices.specs.declared.image.Image.{Image}
use Rattle.ir_model.specs.Plain.{PlainFirmware}
use Rattle.ir_model.specs.Resolve.{resolve}
use Rattle.ir_laws.specs.Sets.{ObjectSets}
use Rattle.ir_program.specs.Windows.{windows_of}
use Rattle.plan_model.specs.declared.needs.Needs.{Needs}
use Rattle.plan_model.specs.declared.graph.Final.{Final}
use Rattle.plan_model.specs.declared.plan.Board.{Board}
use Rattle.plan_model.specs.Needs.{AreNeeds}
use Rattle.plan_model.specs.PointsTo.{IsLeast}
use Rattle.monitor_model.specs.Confined.{Confined}
use Rattle.monitor_model.specs.Layout.{initial_word_count}
use Rattle.monitor_model.specs.Sound.{Sound}
use Rattle.monitor_program.specs.TheCode.{monitor_code}
use Rattle.refine_model.specs.Refines.{Refines}
use Rattle.monitor_model.specs.Setting.{setting_of}
use Rattle.monitor_model.specs.Invariant.{Invariant}
use Rattle.refine.specs.Guard.{StackLaw}
use Rattle.refine.specs.NeverWrong.{RefinesOrStops}
use Rattle.refine.specs.Linked.{Linked}
use Rattle.image_promises.specs.Planned.{planned_tables, planned_image}
use Rattle.plan.specs.PlannedFirmwares.{IsPlanned}
use Rattle.image_promises.specs.Laws.{OfPlanned}
use Rattle.image_promises.specs.Parts.{linked_build}

-- the image's windows are the firmware's peripherals in order, and its memories, its stack's size and the kind of its protection are the
-- board's
pub record IsForBoard (w : PlainFirmware) (b : Board) (i : Image) : Type 0 where
  pub windows : i.windows ≡ windows_of w
  pub flash_base : i.flash_base ≡ b.flash_base
  pub ram_base : i.ram_base ≡ b.ram_base
  pub ram_size : i.ram_size ≡ b.ram_size
  pub stack_size : i.stack_size ≡ b.stack
  pub regions : i.regions ≡ b.regions
  pub closed : i.closed ≡ b.closed

abbrev pub PlannedImagesAreForBoards : Type 0
PlannedImagesAreForBoards = (w : PlainFirmware) (n : Needs) (f : Final) (b : Board) → IsPlanned w n f b → IsForBoard w b (planned_image w n f b)

-- the image's flash has its tables, and none of the checks of an image fails
abbrev pub PlannedImagesAreSound : Type 0
PlannedImagesAreSound = OfPlanned (λ i t. Sound monitor_code i t)

-- no store for a compartment leaves that compartment's permission
abbrev pub PlannedImagesAreConfined : Type 0
PlannedImagesAreConfined = OfPlanned (λ i t. Confined i t)

-- the image keeps all that the linker promises
abbrev pub PlannedImagesAreLinked : Type 0
PlannedImagesAreLinked = (w : PlainFirmware) (n : Needs) (f : Final) (b : Board) → IsPlanned w n f b → Linked (linked_build monitor_code w n f b)

-- the image refines its firmware, where the needs are those by the least sets
abbrev pub PlannedImagesRefine : Type 0
PlannedImagesRefine =
    (w : PlainFirmware) (S : ObjectSets) (n : Needs) (f : Final) (b : Board) → IsPlanned w n f b → IsLeast (resolve w) S → AreNeeds (resolve w) S b.closed n
    → Refines w n f.groups b.stack (initial_word_count (planned_tables w n f b)) (planned_image w n f b)

-- the image refines its firmware or stops for want of stack, however much its frames take, where the law of the stack holds
abbrev pub PlannedImagesRefineOrStop : Type 0
PlannedImagesRefineOrStop =
    (w : PlainFirmware) (S : ObjectSets) (n : Needs) (f : Final) (b : Board) → IsPlanned w n f b → IsLeast (resolve w) S → AreNeeds (resolve w) S b.closed n
    → StackLaw (setting_of monitor_code (planned_image w n f b) (planned_tables w n f b)) (Invariant (planned_image w n f b) (planned_tables w n f b))
    → RefinesOrStops w f.groups (initial_word_count (planned_tables w n f b)) (planned_image w n f b)

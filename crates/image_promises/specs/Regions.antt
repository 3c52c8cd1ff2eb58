-- Beyond the program's claim: only laws, proofs and functions inside the tool cite this file.
-- What holds of the image of every planned firmware and of the regions in its tables: statements of laws.
use Rattle.std.specs.Prelude.{◌≡◌, None}
use Rattle.ir_model.specs.Plain.{PlainFirmware}
use Rattle.plan_model.specs.declared.needs.Needs.{Needs}
use Rattle.plan_model.specs.declared.graph.Final.{Final}
use Rattle.plan_model.specs.declared.plan.Board.{Board}
use Rattle.machine_devices.specs.Rules.{ObeysRules}
use Rattle.monitor_model.specs.MonitorCode.{MonitorCode}
use Rattle.monitor_model.specs.Checks.{regions_fail}
use Rattle.refine.specs.Owned.{MemoryRules}
use Rattle.plan.specs.PlannedFirmwares.{IsPlanned}
use Rattle.image_promises.specs.Laws.{OfPlanned}
use Rattle.image_promises.specs.Parts.{linked_build}

-- the image obeys the rules that every image obeys
abbrev pub ImagesObeyRules : Type 0
ImagesObeyRules = OfPlanned (λ i t. ObeysRules i)

-- and the stack and the monitor's block lie in its RAM as the monitor wants them
abbrev pub MemoryObeysRules : Type 0
MemoryObeysRules = (code : MonitorCode) (w : PlainFirmware) (n : Needs) (f : Final) (b : Board) → IsPlanned w n f b → MemoryRules (linked_build code w n f b).setting

-- the check of the regions in the tables does not fail
abbrev pub RegionsPass : Type 0
RegionsPass = OfPlanned (λ i t. regions_fail i t ≡ None)

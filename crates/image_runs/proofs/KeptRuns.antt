-- A run that keeps its memory, as one value: what the lemmas of isolation speak of.
use Rattle.machine_devices.specs.declared.image.Image.{Image}
use Rattle.machine_devices.specs.Rules.{ObeysRules}
use Rattle.machine_model.specs.State.{State}
use Rattle.image_promises.specs.Planned.{planned_tables}
use Rattle.image_promises.specs.Whole.{IsForBoard}
use Rattle.image_promises.proofs.PlannedPremises.{PlannedPremises}
use Rattle.monitor_runs.specs.Stays.{KeepsMemory}

-- an image for the board of a planned firmware, which obeys the rules, and the first state of a run that keeps its memory by the planned tables
pub record KeptRun (planned : PlannedPremises) : Type 0 where
  pub image : Image
  pub rules : ObeysRules image
  pub board : IsForBoard planned.firmware planned.board image
  pub first : State
  pub keeps : KeepsMemory image (planned_tables planned.firmware planned.needs planned.final planned.board) first

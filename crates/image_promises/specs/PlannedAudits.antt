-- Beyond the program's claim: only laws, proofs and functions inside the tool cite this file.
-- The answer to the image of every planned firmware: the statement of a law.
use Rattle.std.specs.Prelude.{◌≡◌, length}
use Rattle.ir_model.specs.Plain.{PlainFirmware}
use Rattle.plan_model.specs.declared.needs.Needs.{Needs}
use Rattle.plan_model.specs.declared.graph.Final.{Final}
use Rattle.plan_model.specs.declared.plan.Board.{Board}
use Rattle.plan_model.specs.Crossing.{crossing_sites}
use Rattle.image_promises.specs.Planned.{planned_image}
use Rattle.plan.specs.PlannedFirmwares.{IsPlanned}
use Rattle.monitor_audit.specs.declared.answer.Audit.{Audit}
use Rattle.monitor_audit.specs.declared.answer.Audit.TheVariants.{Yes}
use Rattle.monitor_audit.specs.Answers.{IsAudit}

-- yes, with the compartments of its graph and its crossing sites
abbrev pub PlannedImagesAreAnsweredYes : Type 0
PlannedImagesAreAnsweredYes =
    (w : PlainFirmware) (n : Needs) (f : Final) (b : Board) → IsPlanned w n f b → (a : Audit) → IsAudit (planned_image w n f b) a
    → a ≡ Yes f.groups.count (length (crossing_sites n f.groups))

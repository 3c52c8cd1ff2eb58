-- Beyond the program's claim: only laws, proofs and functions inside the tool cite this file.
-- What start-up copies into RAM for a planned firmware: statements of laws.
use Rattle.std.specs.Prelude.{◌≡◌, ℕ, map, None}
use Rattle.ir_model.specs.Plain.{PlainFirmware}
use Rattle.ir_model.specs.Resolved.{NumberedGlobal}
use Rattle.ir_model.specs.Resolve.{resolve}
use Rattle.plan_model.specs.declared.needs.Needs.{Needs}
use Rattle.plan_model.specs.declared.graph.Final.{Final}
use Rattle.plan_model.specs.declared.plan.Board.{Board}
use Rattle.monitor_model.specs.MonitorCode.{MonitorCode}
use Rattle.monitor_model.specs.Checks.{inits_fail}
use Rattle.refine.specs.Relation.{global_areas, object_words}
use Rattle.refine.specs.Linked.{InFlash}
use Rattle.plan.specs.PlannedFirmwares.{IsPlanned}
use Rattle.image_promises.specs.Laws.{OfPlanned}
use Rattle.image_promises.specs.Parts.{linked_build}

-- the check of the blocks that start-up fills does not fail
abbrev pub InitsPass : Type 0
InitsPass = OfPlanned (λ i t. inits_fail i t ≡ None)

-- the records bring each cell of each global the word of its first value, cut to the cell
abbrev pub GlobalsBegin : Type 0
GlobalsBegin =
    (code : MonitorCode) (w : PlainFirmware) (n : Needs) (f : Final) (b : Board) → IsPlanned w n f b → (places : ℕ → ℕ)
    → InFlash (linked_build code w n f b) (global_areas (linked_build code w n f b)) (object_words (linked_build code w n f b) places (map (λ (g : NumberedGlobal). g.init) (resolve w).globals))

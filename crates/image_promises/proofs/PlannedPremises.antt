-- A firmware that is planned for a board, as one value: what the lemmas of planned images speak of.
use Rattle.std.specs.Prelude.{ℕ, ◌-◌, List}
use Rattle.ir_model.specs.Plain.{PlainFirmware}
use Rattle.ir_model.specs.Resolve.{resolve}
use Rattle.plan_model.specs.declared.needs.Needs.{Needs}
use Rattle.plan_model.specs.declared.graph.Final.{Final}
use Rattle.plan_model.specs.declared.plan.Board.{Board}
use Rattle.plan_model.specs.Boards.{slots_of}
use Rattle.plan_model.specs.Placement.{compartment_spot, global_address}
use Rattle.code_model.specs.CompartmentCode.{CodeGroups, CodePlaces}
use Rattle.code_model.specs.Planned.{code_groups, code_places}
use Rattle.image_promises.specs.Planned.{planned_image}
use Rattle.plan.specs.PlannedFirmwares.{IsPlanned, plan}
use Rattle.image_promises.proofs.FinalGraphs.{FinalGraph}

-- a firmware, what its functions need, the final graph of its compartments, and a board; and that the firmware is planned for the board by these
pub record PlannedPremises : Type 0 where
  pub firmware : PlainFirmware
  pub needs : Needs
  pub final : Final
  pub board : Board
  pub is_planned : IsPlanned firmware needs final board

-- such a value, of the fact alone
abbrev pub planned_of : {w : PlainFirmware} {n : Needs} {f : Final} {b : Board} → IsPlanned w n f b → PlannedPremises
planned_of {w} {n} {f} {b} ok = record { firmware = w; needs = n; final = f; board = b; is_planned = ok }

-- its final graph
abbrev pub final_graph_of : PlannedPremises → FinalGraph
final_graph_of planned = record {
  program = resolve planned.firmware;
  needs = planned.needs;
  final = planned.final;
  slots = slots_of planned.board;
  is_final = planned.is_planned.final;
}

-- the functions of its compartments' code, and the places that this code has
abbrev pub code_groups_of : PlannedPremises → CodeGroups
code_groups_of planned = code_groups (resolve planned.firmware) planned.needs planned.final.groups

abbrev pub code_places_of : PlannedPremises → CodePlaces
code_places_of planned = code_places (resolve planned.firmware) planned.needs planned.final (plan planned.firmware planned.needs planned.final planned.board)

-- the bytes of its flash, and how far behind their beginning the block of a compartment's code lies
abbrev pub image_flash_of : PlannedPremises → List ℕ
image_flash_of planned = (planned_image planned.firmware planned.needs planned.final planned.board).flash

abbrev pub code_offset_of : PlannedPremises → (compartment : ℕ) → ℕ
code_offset_of planned c = (compartment_spot (plan planned.firmware planned.needs planned.final planned.board) c).base - planned.board.flash_base

-- the address of a global
abbrev pub global_address_of : PlannedPremises → (global : ℕ) → ℕ
global_address_of planned x = global_address (resolve planned.firmware) planned.final (plan planned.firmware planned.needs planned.final planned.board) x

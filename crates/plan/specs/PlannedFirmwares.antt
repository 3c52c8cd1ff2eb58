-- A firmware that is planned for a board: all that goes before its image.
use Rattle.ir_model.specs.Plain.{PlainFirmware}
use Rattle.ir_model.specs.Resolve.{resolve}
use Rattle.ir_model.specs.Canonical.{IsWithinLimits}
use Rattle.ir_model.specs.Typing.{IsTyped}
use Rattle.ir_laws.specs.Sets.{ObjectSets}
use Rattle.plan_model.specs.declared.needs.Needs.{Needs}
use Rattle.plan_model.specs.declared.graph.Final.{Final}
use Rattle.plan_model.specs.declared.plan.Board.{Board}
use Rattle.plan_model.specs.declared.plan.Sizes.{Sizes}
use Rattle.plan_model.specs.declared.plan.Plan.{Plan}
use Rattle.plan_model.specs.Boards.{IsBoard, slots_of}
use Rattle.plan_model.specs.Compartments.{AreCompartments}
use Rattle.plan_model.specs.Needs.{AreNeeds}
use Rattle.plan_model.specs.CompileLimits.{KeepsLimits}
use Rattle.plan_model.specs.FinalGraph.{IsFinal}
use Rattle.plan_model.specs.Placement.{Fits, plan_of}
use Rattle.need_laws.specs.Checked.{AreSets}
use Rattle.code_model.specs.Planned.{sizes_of}

-- ---- a firmware `w` with its needs, its final graph and a board

module _ (w : PlainFirmware) (n : Needs) (f : Final) (b : Board) where
  abbrev pub planned_sizes : Sizes
  planned_sizes = sizes_of (resolve w) n f (slots_of b)

  abbrev pub plan : Plan
  plan = plan_of (resolve w) f planned_sizes b

-- the firmware passes the checks; the needs are its own by sets that no step leaves, for the board's kind; the graph is the final one of
-- its compartments, of which no limit is passed; and the board has room for its blocks
pub record IsPlanned (w : PlainFirmware) (n : Needs) (f : Final) (b : Board) : Type 0 where
  pub typed : IsTyped w
  pub within : IsWithinLimits w
  pub sets : ObjectSets
  pub are_sets : AreSets (resolve w) sets
  pub needs : AreNeeds (resolve w) sets b.closed n
  pub groups : AreCompartments (resolve w) f.groups
  pub limits : KeepsLimits n f.groups
  pub final : IsFinal (resolve w) n f.groups (slots_of b) f
  pub board : IsBoard b
  pub fits : Fits (resolve w) f (planned_sizes w n f b) b

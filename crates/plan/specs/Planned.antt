-- A firmware that is planned for a board.
use Rattle.std.specs.Prelude.{◌≡◌}
use Rattle.ir_model.specs.Resolved.{Program}
use Rattle.plan_model.specs.declared.needs.Needs.{Needs}
use Rattle.plan_model.specs.declared.groups.Groups.{Groups}
use Rattle.plan_model.specs.declared.plan.Board.{Board}
use Rattle.plan_model.specs.Boards.{slots_of}
use Rattle.plan_model.specs.CompileLimits.{KeepsLimits}
use Rattle.plan_model.specs.FinalGraph.{IsFinal}
use Rattle.plan_model.specs.Placement.{Fits, plan_of}
use Rattle.code_model.specs.Planned.{sizes_of}
use Rattle.plan_denials.specs.Meetings.{KeepsOff}
use Rattle.plan.specs.declared.planner.PlannedFirmware.{PlannedFirmware}

-- its sizes and its plan are those of its graph, and the board has room for its blocks
pub record IsPlaced (p : Program) (n : Needs) (b : Board) (x : PlannedFirmware) : Type 0 where
  pub sizes : x.sizes ≡ sizes_of p n x.graph (slots_of b)
  pub fits : Fits p x.graph x.sizes b
  pub plan : x.plan ≡ plan_of p x.graph x.sizes b

-- and no limit is passed, and the graph is the final one of its compartments, which asks for nothing that the board denies
pub record IsPlannedFor (p : Program) (n : Needs) (g : Groups) (b : Board) (x : PlannedFirmware) : Type 0 where
  pub limits : KeepsLimits n g
  pub final : IsFinal p n g (slots_of b) x.graph
  pub groups : x.graph.groups ≡ g
  pub off : KeepsOff b.denied p x.graph
  pub placed : IsPlaced p n b x

-- Graphs and their joins.
use Rattle.std.proofs.Common.{refl}
use Rattle.plan_model.specs.InitialGraph.{initial_graph}
use Rattle.plan_model.specs.Exposure.{added_exposure}
use Rattle.plan_model.specs.Covers.{least_power, joined}
use Rattle.plan_model.specs.Merging.{next}
use Rattle.plan_model.specs.FinalGraph.{stays, joins}
use Rattle.plan_model.specs.Permission.{may_write, may_read}
use Rattle.example_plan.specs.ControlGraph as control
use Rattle.example_plan.specs.ControlGraph.{ComputesGraph}
use Rattle.example_plan.specs.ClosedLoop as closed
use Rattle.example_plan.specs.ClosedLoop.{ComputesClosedGraph}
use Rattle.example_plan.specs.FiveGlobals as five
use Rattle.example_plan.specs.FiveGlobals.{ComputesJoins}
use Rattle.example_plan.specs.NearWindows as near
use Rattle.example_plan.specs.NearWindows.{ComputesCovers}

pub computes_graph : ComputesGraph
unfolding initial_graph next added_exposure may_write
computes_graph = record {
  slots = refl;
  first = refl;
  no_join = refl;
  final = record { last = control.graph; reached = stays; ended = refl; is = refl };
  main_writes = refl;
  control_does_not = refl;
  control_has_the_timer = refl;
  nothing_exposed = refl;
}

pub computes_closed_graph : ComputesClosedGraph
unfolding initial_graph next added_exposure may_write may_read
computes_closed_graph = record {
  first = refl;
  final = record { last = closed.graph; reached = stays; ended = refl; is = refl };
  reads_gain = refl;
  writes_no_gain = refl;
  reads_no_turns = refl;
  nothing_written = refl;
  nothing_read = refl;
}

pub computes_joins : ComputesJoins
unfolding initial_graph next added_exposure
computes_joins = record {
  initial = refl;
  added = refl;
  pair = refl;
  step = refl;
  no_second_step = refl;
  final = record { last = five.joined; reached = joins refl stays; ended = refl; is = refl };
  of_all = refl;
  slots = refl;
  used = refl;
  no_join = record { last = five.first; reached = stays; ended = refl; is = refl };
  of_none = refl;
}

pub computes_covers : ComputesCovers
unfolding initial_graph next added_exposure least_power joined may_write
computes_covers = record {
  initial = refl;
  step = refl;
  second_step = refl;
  third_step = refl;
  no_further = refl;
  final = record { last = near.fourth; reached = joins refl (joins refl (joins refl stays)); ended = refl; is = refl };
  across = refl;
  dropped = refl;
  beside = refl;
}

-- Beyond the program's claim: only laws, proofs and functions inside the tool cite this file.
-- The graph of the control loop by files on an open board: nothing is joined, and nothing is exposed.
use Rattle.std.specs.Prelude.{◌≡◌, [], ◌∷◌, true, false, None}
use Rattle.ir_model.specs.declared.object.ObjId.TheVariants.{Global, Periph}
use Rattle.plan_model.specs.declared.graph.Graph.{Graph}
use Rattle.plan_model.specs.InitialGraph.{initial_graph}
use Rattle.plan_model.specs.Merging.{next}
use Rattle.plan_model.specs.FinalGraph.{IsFinal, as_final}
use Rattle.plan_model.specs.Boards.{slots_of}
use Rattle.plan_model.specs.Permission.{may_write}
use Rattle.plan_model.specs.Exposure.{exposed_to_writes}
use Rattle.example_plan.specs.Written.{data_region, cover, board}
use Rattle.example_plan.specs.ControlLoop.{program, needs, groups_by_file}

-- `gain` is written by none
abbrev pub graph : Graph
graph =
    record {
      groups = groups_by_file;
      regions = data_region (1 ∷ []) (0 ∷ []) [] ∷ [];
      unwritten = 0 ∷ [];
      covers = []
          ∷ (cover 0x40012000 1024 ∷ [])
          ∷ (cover 0x40010000 1024 ∷ [])
          ∷ (cover 0x40010000 1024 ∷ [])
          ∷ [];
      masks = 0 ∷ 0 ∷ 0 ∷ 0 ∷ [];
      reads = 0 ∷ 0 ∷ 0 ∷ 0 ∷ [];
    }

pub record ComputesGraph : Type 0 where
  pub slots : slots_of board ≡ 4
  pub first : initial_graph program (needs false) groups_by_file ≡ graph
  pub no_join : next program 4 graph ≡ None
  pub final : IsFinal program (needs false) groups_by_file 4 (as_final graph)
  pub main_writes : may_write program (needs false) (as_final graph) 0 (Global 1) ≡ true
  pub control_does_not : may_write program (needs false) (as_final graph) 2 (Global 1) ≡ false
  pub control_has_the_timer : may_write program (needs false) (as_final graph) 2 (Periph 1) ≡ true
  pub nothing_exposed : exposed_to_writes program (needs false) groups_by_file graph.regions 0 ≡ 0

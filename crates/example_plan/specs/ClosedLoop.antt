-- Beyond the program's claim: only laws, proofs and functions inside the tool cite this file.
-- The control loop by files on a closed board: what is only read has a region too, which is read-only.
use Rattle.std.specs.Prelude.{◌≡◌, [], ◌∷◌, true, false, None}
use Rattle.ir_model.specs.declared.object.ObjId.TheVariants.{Global}
use Rattle.plan_model.specs.declared.graph.Graph.{Graph}
use Rattle.plan_model.specs.declared.graph.Final.{Final}
use Rattle.plan_model.specs.declared.plan.Plan.{Plan}
use Rattle.plan_model.specs.InitialGraph.{initial_graph}
use Rattle.plan_model.specs.FinalGraph.{IsFinal, as_final}
use Rattle.plan_model.specs.Permission.{may_read, may_write}
use Rattle.plan_model.specs.Exposure.{exposed_to_writes, exposed_to_reads}
use Rattle.plan_model.specs.TableSize.{table_bytes}
use Rattle.plan_model.specs.Placement.{plan_of}
use Rattle.plan_model.specs.Slots.{slot_regions}
use Rattle.example_plan.specs.Written.{data_region, cover, spot, words, board}
use Rattle.example_plan.specs.ControlLoop.{program, needs, groups_by_file}
use Rattle.example_plan.specs.ControlPlan.{sizes}

abbrev pub graph : Graph
graph =
    record {
      groups = groups_by_file;
      regions = data_region (0 ∷ []) [] (2 ∷ []) ∷ data_region (1 ∷ []) (0 ∷ []) (0 ∷ []) ∷ [];
      unwritten = [];
      covers = []
          ∷ (cover 0x40012000 1024 ∷ [])
          ∷ (cover 0x40010000 1024 ∷ [])
          ∷ (cover 0x40010000 1024 ∷ [])
          ∷ [];
      masks = 0 ∷ 0 ∷ 0 ∷ 0 ∷ [];
      reads = 0 ∷ 0 ∷ 0 ∷ 0 ∷ [];
    }

abbrev pub final : Final
final = as_final graph

pub record ComputesClosedGraph : Type 0 where
  pub first : initial_graph program (needs true) groups_by_file ≡ graph
  pub final : IsFinal program (needs true) groups_by_file 4 (as_final graph)
  pub reads_gain : may_read program (needs true) (as_final graph) 2 (Global 0) ≡ true
  pub writes_no_gain : may_write program (needs true) (as_final graph) 2 (Global 0) ≡ false
  pub reads_no_turns : may_read program (needs true) (as_final graph) 2 (Global 1) ≡ false
  pub nothing_written : exposed_to_writes program (needs true) groups_by_file graph.regions 0 ≡ 0
  pub nothing_read : exposed_to_reads program (needs true) groups_by_file graph.regions 2 ≡ 0

abbrev pub plan : Plan
plan =
    record {
      tables = spot 0x08000000 8192;
      code = spot 0x08002000 128 ∷ spot 0x08002180 64 ∷ spot 0x08002080 128 ∷ spot 0x08002100 128 ∷ [];
      stack = spot 0x20000000 2048;
      monitor = spot 0x20000800 1024;
      regions = spot 0x20000c00 32 ∷ spot 0x20000c20 32 ∷ [];
      unwritten = None;
    }

pub record ComputesClosedPlan : Type 0 where
  pub tables : table_bytes program (needs true) final 4 ≡ 4432
  pub blocks : plan_of program final sizes (record board { closed = true }) ≡ plan
  pub of_main : slot_regions program final plan 4 0 ≡ words 0x20000c34 0x13060009 ∷ words 0x15 0 ∷ words 0x16 0 ∷ words 0x17 0 ∷ []
  -- `gain` is read-only for `control`
  pub of_control : slot_regions program final plan 4 2 ≡ words 0x20000c14 0x12060009 ∷ words 0x40010015 0x13010013 ∷ words 0x16 0 ∷ words 0x17 0 ∷ []

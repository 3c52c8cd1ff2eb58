-- Beyond the program's claim: only laws, proofs and functions inside the tool cite this file.
-- Five globals that are written by compartments {0}, {0, 1}, {0, 2}, {0, 3} and {0, 1, 2}: five data regions for compartment 0,
-- one more than a unit of eight regions has slots. The first pair of least added exposure, 4 bytes, is that of the first two.
use Rattle.std.specs.Prelude.{◌≡◌, ℕ, List, [], ◌∷◌, false, map, Some, None}
use Rattle.ir_model.specs.declared.object.ObjId.{ObjId}
use Rattle.ir_model.specs.declared.object.ObjId.TheVariants.{Global}
use Rattle.ir_model.specs.Resolved.{Program}
use Rattle.plan_model.specs.declared.needs.Needs.{Needs}
use Rattle.plan_model.specs.declared.groups.Groups.{Groups}
use Rattle.plan_model.specs.declared.graph.DataRegion.{DataRegion}
use Rattle.plan_model.specs.declared.graph.Graph.{Graph}
use Rattle.plan_model.specs.declared.plan.Board.{Board}
use Rattle.plan_model.specs.Choices.{Pair, pairs}
use Rattle.plan_model.specs.Exposure.{exposure_to_writers, exposed_to_writes}
use Rattle.plan_model.specs.Regions.{region_at, regions_used}
use Rattle.plan_model.specs.InitialGraph.{initial_graph}
use Rattle.plan_model.specs.Merging.{region_pair, next}
use Rattle.plan_model.specs.FinalGraph.{IsFinal, as_final}
use Rattle.plan_model.specs.Boards.{slots_of}
use Rattle.example_plan.specs.Written.{need, global, data_of, data_region, board}

abbrev pub program : Program
program = data_of (global 4 4 ∷ global 4 4 ∷ global 4 4 ∷ global 4 4 ∷ global 4 4 ∷ []) []

abbrev pub writes : List ℕ → List ObjId
writes xs = map (λ (x : ℕ). Global x) xs

abbrev pub needs : Needs
needs =
    record {
      funcs = need (writes (0 ∷ 1 ∷ 2 ∷ 3 ∷ 4 ∷ [])) [] [] []
          ∷ need (writes (1 ∷ 4 ∷ [])) [] [] []
          ∷ need (writes (2 ∷ 4 ∷ [])) [] [] []
          ∷ need (writes (3 ∷ [])) [] [] []
          ∷ [];
      sites = [];
      lendable = [];
      closed = false;
    }

abbrev pub groups : Groups
groups = record { of = 0 ∷ 1 ∷ 2 ∷ 3 ∷ []; count = 4 }

abbrev pub behind : List DataRegion
behind = data_region (2 ∷ []) (0 ∷ 2 ∷ []) [] ∷ data_region (3 ∷ []) (0 ∷ 3 ∷ []) [] ∷ data_region (4 ∷ []) (0 ∷ 1 ∷ 2 ∷ []) [] ∷ []

abbrev pub graph_of : List DataRegion → Graph
graph_of rs =
    record {
      groups = groups;
      regions = rs;
      unwritten = [];
      covers = [] ∷ [] ∷ [] ∷ [] ∷ [];
      masks = 0 ∷ 0 ∷ 0 ∷ 0 ∷ [];
      reads = 0 ∷ 0 ∷ 0 ∷ 0 ∷ [];
    }

abbrev pub first : Graph
first = graph_of (data_region (0 ∷ []) (0 ∷ []) [] ∷ data_region (1 ∷ []) (0 ∷ 1 ∷ []) [] ∷ behind)

abbrev pub joined : Graph
joined = graph_of (data_region (0 ∷ 1 ∷ []) (0 ∷ 1 ∷ []) [] ∷ behind)

-- what the join of each pair adds, from (a, b) and (a, c) to (d, e)
abbrev pub exposures : List ℕ
exposures =
    map
    (λ (q : Pair). exposure_to_writers program (region_at first.regions q.first) (region_at first.regions q.second))
    (pairs (0 ∷ 1 ∷ 2 ∷ 3 ∷ 4 ∷ []))

abbrev pub exposed : Graph → (compartment : ℕ) → ℕ
exposed g c = exposed_to_writes program needs groups g.regions c

abbrev pub wide_board : Board
wide_board = record board { regions = 16 }

pub record ComputesJoins : Type 0 where
  pub initial : initial_graph program needs groups ≡ first
  pub added : exposures ≡ 4 ∷ 4 ∷ 4 ∷ 8 ∷ 8 ∷ 8 ∷ 4 ∷ 8 ∷ 4 ∷ 12 ∷ []
  pub pair : region_pair program first.regions 0 ≡ Some (record { first = 0; second = 1 })
  pub step : next program 4 first ≡ Some joined
  pub no_second_step : next program 4 joined ≡ None
  pub final : IsFinal program needs groups 4 (as_final joined)
  pub of_all : map (exposed joined) (0 ∷ 1 ∷ 2 ∷ 3 ∷ []) ≡ 0 ∷ 4 ∷ 0 ∷ 0 ∷ []
  -- on a unit of sixteen regions there is room
  pub slots : slots_of wide_board ≡ 12
  pub used : regions_used first.regions 0 ≡ 0 ∷ 1 ∷ 2 ∷ 3 ∷ 4 ∷ []
  pub no_join : IsFinal program needs groups 12 (as_final first)
  pub of_none : map (exposed first) (0 ∷ 1 ∷ 2 ∷ 3 ∷ []) ≡ 0 ∷ 0 ∷ 0 ∷ 0 ∷ []

-- The graph that the protection unit can hold: reached by joins, until none applies.
use Rattle.std.specs.Prelude.{◌≡◌, ℕ, Some, None}
use Rattle.ir_model.specs.Resolved.{Program}
use Rattle.plan_model.specs.declared.needs.Needs.{Needs}
use Rattle.plan_model.specs.declared.groups.Groups.{Groups}
use Rattle.plan_model.specs.declared.graph.Graph.{Graph}
use Rattle.plan_model.specs.declared.graph.Final.{Final}
use Rattle.plan_model.specs.InitialGraph.{initial_graph}
use Rattle.plan_model.specs.Merging.{next}

-- by any number of joins
pub data Merges (p : Program) (slots : ℕ) : Graph → Graph → Type 0 where
  stays : {g : Graph} → Merges p slots g g
  joins : {g h k : Graph} → next p slots g ≡ Some h → Merges p slots h k → Merges p slots g k

-- a graph as one that is final
abbrev pub as_final : Graph → Final
as_final g =
    record {
      groups = g.groups;
      regions = g.regions;
      unwritten = g.unwritten;
      covers = g.covers;
      masks = g.masks;
      reads = g.reads;
    }

-- what joins make of a graph, where no further one applies
pub record IsMerged (p : Program) (slots : ℕ) (first : Graph) (f : Final) : Type 0 where
  pub last : Graph
  pub reached : Merges p slots first last
  pub ended : next p slots last ≡ None
  pub is : f ≡ as_final last

-- the final graph of a program's needs and compartments
abbrev pub IsFinal : Program → Needs → Groups → (slots : ℕ) → Final → Type 0
IsFinal p n g slots f = IsMerged p slots (initial_graph p n g) f

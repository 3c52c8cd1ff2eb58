-- Beyond the program's claim: only laws, proofs and functions inside the tool cite this file.
-- A graph while it is merged, with what is known of its regions; and what an attempt to join comes to.
use Rattle.std.specs.Prelude.{◌≡◌, ℕ, ◌+◌, ◌<◌, Bool, true, false, Option, Some, None, List, length, sum_by}
use Rattle.ir_program.specs.Seen.{program_of}
use Rattle.plan_model.specs.declared.graph.Cover.{Cover}
use Rattle.plan_model.specs.declared.graph.Graph.{Graph}
use Rattle.plan_graph.specs.declared.merging.Merging.{Merging}
use Rattle.plan_graph.specs.Known.{AreLearned, AreCosts}

-- its regions are known under their numbers, and what joins cost is told
pub record IsMerging (m : Merging) : Type 0 where
  pub learned : AreLearned (program_of m.program.now) m.known.items m.graph.regions m.numbers.items
  pub costs : AreCosts m.known.items m.costs.items

-- the data regions and the covers of all compartments
abbrev pub parts_of : Graph → ℕ
parts_of g = length g.regions + sum_by (λ (cs : List Cover). length cs) g.covers

-- a join is the next one and leaves fewer parts; without a join there is no next one, and the graph stays
abbrev pub CameTo : (joined : Bool) → (next : Option Graph) → (before after : Graph) → Type 0
CameTo true next before after = (next ≡ Some after) × (parts_of after < parts_of before)
CameTo false next before after = (next ≡ None) × (after ≡ before)

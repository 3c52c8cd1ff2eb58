-- The final graph of a program, as one value: what the lemmas of regions, covers and masks speak of.
use Rattle.std.proofs.Common.{ℕ}
use Rattle.ir_model.specs.Resolved.{Program}
use Rattle.plan_model.specs.declared.needs.Needs.{Needs}
use Rattle.plan_model.specs.declared.graph.Final.{Final}
use Rattle.plan_model.specs.FinalGraph.{IsFinal}

-- a program, what its functions need, the final graph of its compartments and how many slots each has; and that the graph is final by these
pub record FinalGraph : Type 0 where
  pub program : Program
  pub needs : Needs
  pub final : Final
  pub slots : ℕ
  pub is_final : IsFinal program needs final.groups slots final

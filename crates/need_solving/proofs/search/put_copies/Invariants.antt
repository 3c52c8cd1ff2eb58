use Rattle.need_solving.proofs.Starting.{IsPuttingEdges}
use Rattle.need_solving.specs.Searching.{IsPaid}
use Rattle.need_solving.proofs.search.put_copies.Given as goal

abbrev pub invariant-loop-place : goal.invariant-loop-place
invariant-loop-place g l = record { putting : IsPuttingEdges l.system l.initial.state l.state l.place; paid : IsPaid l.initial.state l.state l.initial.steps l.steps }

use Rattle.std.proofs.Common.{◌+◌, ◌≤◌}
use Rattle.need_solving.proofs.Starting.{IsPutting}
use Rattle.need_solving.specs.Searching.{cost}
use Rattle.need_solving.proofs.search.put_facts.Given as goal

abbrev pub invariant-loop-place : goal.invariant-loop-place
invariant-loop-place g l = record { putting : IsPutting l.system l.initial.state l.state l.place; steps : l.steps + cost l.initial.state ≤ l.initial.steps + l.place + cost l.state }

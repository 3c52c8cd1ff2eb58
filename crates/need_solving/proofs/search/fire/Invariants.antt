use Rattle.need_solving.proofs.Firing.{IsFiring}
use Rattle.need_solving.specs.Searching.{IsPaid}
use Rattle.need_solving.proofs.search.fire.Given as goal

abbrev pub invariant-loop-place : goal.invariant-loop-place
invariant-loop-place g l = record { firing : IsFiring l.system l.initial.state l.state l.pair l.place; paid : IsPaid l.initial.state l.state l.initial.steps l.steps }

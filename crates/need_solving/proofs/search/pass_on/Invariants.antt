use Rattle.std.proofs.Common.{◌≡◌, ◌+◌, ◌-◌, ◌^◌}
use Rattle.need_solving.proofs.Passing.{IsPassing}
use Rattle.need_solving.proofs.search.pass_on.Given as goal

abbrev pub invariant-loop-to : goal.invariant-loop-to
invariant-loop-to g l = record { passing : IsPassing l.system l.initial.state l.state l.pair l.place; steps : l.steps ≡ l.initial.steps + l.place }

abbrev pub decreases-loop-to : goal.decreases-loop-to
decreases-loop-to g l = 2 ^ 32 - l.place

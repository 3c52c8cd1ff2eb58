use Rattle.std.proofs.Common.{◌≡◌, ◌+◌, ◌-◌, ◌*◌, ◌^◌}
use Rattle.need_solving.proofs.Copying.{IsCopying}
use Rattle.need_solving.proofs.search.copy.Given as goal

abbrev pub invariant-loop-object : goal.invariant-loop-object
invariant-loop-object g l = record { copying : IsCopying l.system l.initial.state l.state l.edge l.place; steps : l.steps ≡ l.initial.steps + 2 * l.place }

abbrev pub decreases-loop-object : goal.decreases-loop-object
decreases-loop-object g l = 2 ^ 32 - l.place

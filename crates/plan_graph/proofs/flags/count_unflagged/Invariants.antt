use Rattle.std.proofs.Common.{◌≡◌, ◌≤◌, length, take}
use Rattle.plan_graph.specs.Known.{unflagged}
use Rattle.plan_graph.proofs.flags.count_unflagged.Given as goal

abbrev pub invariant-loop-i : goal.invariant-loop-i
invariant-loop-i l = record { few : l.count ≤ l.i; exact : l.count ≡ length (unflagged (take l.i l.numbers) l.flags) }

use Rattle.std.proofs.Common.{◌≡◌, map, take}
use Rattle.plan_graph.specs.declared.known.Known.{Known}
use Rattle.plan_graph.specs.Known.{exposure_of, known_at}
use Rattle.plan_graph.proofs.merging.row.Given as goal

abbrev pub invariant-loop-i : goal.invariant-loop-i
invariant-loop-i l = l.row.items ≡ map (λ (j : Known). exposure_of j (known_at l.known l.number)) (take l.i l.known)

use Rattle.std.proofs.Common.{◌≡◌, ◌+◌, ◌++◌, flat_map, codes}
use Rattle.plan_model.specs.Lists.{numbers_below}
use Rattle.aces_inspection.specs.CoreLines.{register_text}
use Rattle.aces_inspection.proofs.core_lines.put_behind.Given as goal

abbrev pub invariant-loop-i : goal.invariant-loop-i
invariant-loop-i l = l.text ≡ l.initial.text ++ flat_map (λ k. codes " " ++ register_text l.core (1 + k)) (numbers_below l.i)

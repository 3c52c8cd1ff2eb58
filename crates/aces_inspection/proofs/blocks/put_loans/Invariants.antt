use Rattle.std.proofs.Common.{◌≡◌, ◌-◌, ◌++◌, flat_map}
use Rattle.plan_model.specs.Lists.{numbers_below}
use Rattle.aces_inspection.specs.MemoryLines.{loan_line}
use Rattle.aces_inspection.proofs.blocks.put_loans.Given as goal

abbrev pub invariant-loop-i : goal.invariant-loop-i
invariant-loop-i l = l.text ≡ l.initial.text ++ flat_map (λ k. loan_line l.machine.image l.machine.state l.block (l.count - 1 - k)) (numbers_below l.i)

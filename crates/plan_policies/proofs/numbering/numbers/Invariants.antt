use Rattle.std.proofs.Common.{◌≡◌, ◌+◌, ◌≤◌, ℕ, List, length}
use Rattle.plan_model.specs.Compartments.{compartment_number}
use Rattle.plan_policies.specs.Marks.{AreMarks, AreNumbers}
use Rattle.plan_policies.proofs.numbering.numbers.Given as goal

abbrev pub invariant-loop-i : goal.invariant-loop-i
invariant-loop-i l = record {
  each : length l.numbers.items ≡ l.i + 1;
  small : l.number ≤ l.i;
  number : (groups : List ℕ) → AreMarks groups l.used → l.number ≡ compartment_number groups l.i;
  exact : (groups : List ℕ) → AreMarks groups l.used → AreNumbers groups l.numbers.items;
}

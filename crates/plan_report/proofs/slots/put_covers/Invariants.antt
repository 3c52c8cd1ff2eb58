use Rattle.std.proofs.Common.{◌≡◌, ◌++◌, ◌+◌, flat_map}
use Rattle.plan_model.specs.Lists.{numbers_below}
use Rattle.plan_model.specs.Covers.{cover_at}
use Rattle.plan_report.specs.CompartmentLines.{cover_line, covers}
use Rattle.plan_report.specs.Subjects.{subject_of}
use Rattle.plan_report.proofs.slots.put_covers.Given as goal

abbrev pub invariant-loop-i : goal.invariant-loop-i
invariant-loop-i l = l.text ≡ l.initial.text ++ flat_map (λ k. cover_line (subject_of l.subject) (l.first + k) (cover_at (covers (subject_of l.subject) l.compartment) k)) (numbers_below l.i)

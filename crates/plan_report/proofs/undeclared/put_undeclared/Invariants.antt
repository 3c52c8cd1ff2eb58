use Rattle.std.proofs.Common.{◌≡◌, ◌++◌, flat_map, take}
use Rattle.plan_report.specs.CompartmentLines.{undeclared_in, covers}
use Rattle.plan_report.specs.Subjects.{subject_of}
use Rattle.plan_report.proofs.undeclared.put_undeclared.Given as goal

abbrev pub invariant-loop-i : goal.invariant-loop-i
invariant-loop-i l = l.text ≡ l.initial.text ++ flat_map (undeclared_in (subject_of l.subject) l.words) (take l.i (covers (subject_of l.subject) l.compartment))

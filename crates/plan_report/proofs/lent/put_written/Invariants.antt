use Rattle.std.proofs.Common.{ℕ, ◌≡◌, ◌++◌, flat_map, filter, take, codes}
use Rattle.ir_model.specs.declared.object.ObjId.TheVariants.{Local}
use Rattle.plan_model.specs.Groups.{writes}
use Rattle.plan_report.specs.CompartmentLines.{lent_line}
use Rattle.plan_report.specs.Subjects.{subject_of}
use Rattle.plan_report.proofs.lent.put_written.Given as goal

abbrev pub invariant-loop-i : goal.invariant-loop-i
invariant-loop-i l = l.text ≡ l.initial.text ++ flat_map (lent_line (subject_of l.subject) (codes "lend ")) (filter (λ (x : ℕ × ℕ). writes l.subject.needs.now l.subject.graph.now.groups l.compartment (Local x.0 x.1)) (take l.i l.subject.needs.now.lendable))

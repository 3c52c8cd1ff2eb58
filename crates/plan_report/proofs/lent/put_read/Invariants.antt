use Rattle.std.proofs.Common.{◌≡◌, ◌++◌, flat_map, map, filter, get_or, codes}
use Rattle.plan_model.specs.Lists.{numbers_below}
use Rattle.plan_report.specs.CompartmentLines.{lent_line, is_read_alone}
use Rattle.plan_report.specs.Subjects.{subject_of}
use Rattle.plan_report.proofs.lent.put_read.Given as goal

abbrev pub invariant-loop-i : goal.invariant-loop-i
invariant-loop-i l = l.text ≡ l.initial.text ++ flat_map (lent_line (subject_of l.subject) (codes "lend-read ")) (map (λ k. get_or l.subject.needs.now.lendable k (0, 0)) (filter (is_read_alone (subject_of l.subject) l.compartment) (numbers_below l.i)))

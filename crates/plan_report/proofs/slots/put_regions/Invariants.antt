use Rattle.std.proofs.Common.{◌≡◌, ◌++◌, ◌+◌, flat_map, get_or}
use Rattle.plan_model.specs.Lists.{numbers_below}
use Rattle.plan_report.specs.CompartmentLines.{region_line}
use Rattle.plan_report.specs.Subjects.{subject_of}
use Rattle.plan_report.proofs.slots.put_regions.Given as goal

abbrev pub invariant-loop-i : goal.invariant-loop-i
invariant-loop-i l = l.text ≡ l.initial.text ++ flat_map (λ k. region_line (subject_of l.subject) l.compartment (4 + k) (get_or l.used k 0)) (numbers_below l.i)

use Rattle.std.proofs.Common.{◌≡◌, ◌++◌, flat_map, filter, nat_eq}
use Rattle.plan_model.specs.Groups.{compartment_of}
use Rattle.plan_model.specs.Lists.{numbers_below}
use Rattle.plan_report.specs.CompartmentLines.{function_line}
use Rattle.plan_report.specs.Subjects.{subject_of}
use Rattle.plan_report.proofs.compartment.put_functions.Given as goal

abbrev pub invariant-loop-func : goal.invariant-loop-func
invariant-loop-func l = l.text ≡ l.initial.text ++ flat_map (function_line (subject_of l.subject)) (filter (λ f. nat_eq (compartment_of l.subject.graph.now.groups f) l.compartment) (numbers_below l.func))

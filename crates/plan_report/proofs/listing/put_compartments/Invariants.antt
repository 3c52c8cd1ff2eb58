use Rattle.std.proofs.Common.{◌≡◌, ◌++◌, flat_map}
use Rattle.plan_model.specs.Lists.{numbers_below}
use Rattle.plan_report.specs.CompartmentLines.{compartment_lines}
use Rattle.plan_report.specs.Subjects.{subject_of}
use Rattle.plan_report.proofs.listing.put_compartments.Given as goal

abbrev pub invariant-loop-compartment : goal.invariant-loop-compartment
invariant-loop-compartment l = l.text ≡ l.initial.text ++ flat_map (compartment_lines (subject_of l.subject)) (numbers_below l.compartment)

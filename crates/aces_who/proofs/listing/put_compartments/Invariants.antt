use Rattle.std.proofs.Common.{◌≡◌, ◌++◌, flat_map}
use Rattle.plan_model.specs.Lists.{numbers_below}
use Rattle.plan_report.specs.Subjects.{subject_of}
use Rattle.aces_who.specs.WhoLines.{compartment_line}
use Rattle.aces_who.proofs.listing.put_compartments.Given as goal

abbrev pub invariant-loop-compartment : goal.invariant-loop-compartment
invariant-loop-compartment l = l.text ≡ l.initial.text ++ flat_map (compartment_line (subject_of l.subject) l.policy) (numbers_below l.compartment)

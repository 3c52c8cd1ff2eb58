use Rattle.std.proofs.Common.{◌≡◌, ◌++◌, flat_map}
use Rattle.plan_model.specs.Lists.{numbers_below}
use Rattle.plan_report.specs.Subjects.{subject_of}
use Rattle.aces_who.specs.WhoLines.{exposure_lines}
use Rattle.aces_who.proofs.listing.put_all_exposures.Given as goal

abbrev pub invariant-loop-compartment : goal.invariant-loop-compartment
invariant-loop-compartment l = l.text ≡ l.initial.text ++ flat_map (exposure_lines (subject_of l.subject)) (numbers_below l.compartment)

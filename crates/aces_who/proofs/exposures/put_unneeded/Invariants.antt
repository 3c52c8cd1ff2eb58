use Rattle.std.proofs.Common.{◌≡◌, ◌++◌, flat_map, filter, take, not}
use Rattle.plan_report.specs.Subjects.{subject_of}
use Rattle.aces_who.specs.Exposed.{is_needed}
use Rattle.aces_who.specs.WhoLines.{exposed_global_line}
use Rattle.aces_who.proofs.exposures.put_unneeded.Given as goal

abbrev pub invariant-loop-i : goal.invariant-loop-i
invariant-loop-i l = l.text ≡ l.initial.text ++ flat_map (exposed_global_line (subject_of l.subject) l.compartment l.access) (filter (λ x. not (is_needed (subject_of l.subject) l.compartment l.access x)) (take l.i l.region.globals))

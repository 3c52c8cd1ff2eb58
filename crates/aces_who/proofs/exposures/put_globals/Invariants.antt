use Rattle.std.proofs.Common.{◌≡◌, ◌++◌, flat_map, filter, take}
use Rattle.plan_report.specs.Subjects.{subject_of}
use Rattle.aces_who.specs.Exposed.{is_open, unneeded}
use Rattle.aces_who.specs.WhoLines.{exposed_global_line}
use Rattle.aces_who.proofs.exposures.put_globals.Given as goal

abbrev pub invariant-loop-i : goal.invariant-loop-i
invariant-loop-i l = l.text ≡ l.initial.text ++ flat_map (exposed_global_line (subject_of l.subject) l.compartment l.access) (flat_map (unneeded (subject_of l.subject) l.compartment l.access) (filter (is_open l.compartment l.access) (take l.i l.subject.graph.now.regions)))

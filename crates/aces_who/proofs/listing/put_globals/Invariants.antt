use Rattle.std.proofs.Common.{◌≡◌, ◌++◌, flat_map}
use Rattle.plan_model.specs.Lists.{numbers_below}
use Rattle.plan_report.specs.Subjects.{subject_of}
use Rattle.aces_who.specs.WhoLines.{global_line}
use Rattle.aces_who.proofs.listing.put_globals.Given as goal

abbrev pub invariant-loop-global : goal.invariant-loop-global
invariant-loop-global l = l.text ≡ l.initial.text ++ flat_map (global_line (subject_of l.subject)) (numbers_below l.global)

use Rattle.std.proofs.Common.{◌≡◌, ◌++◌, flat_map}
use Rattle.plan_model.specs.Lists.{numbers_below}
use Rattle.plan_report.specs.Subjects.{subject_of}
use Rattle.aces_who.specs.WhoLines.{periph_line}
use Rattle.aces_who.proofs.listing.put_periphs.Given as goal

abbrev pub invariant-loop-periph : goal.invariant-loop-periph
invariant-loop-periph l = l.text ≡ l.initial.text ++ flat_map (periph_line (subject_of l.subject)) (numbers_below l.periph)

use Rattle.std.proofs.Common.{◌≡◌, ◌++◌, map, filter}
use Rattle.std.specs.Fmt.{decimal}
use Rattle.plan_model.specs.Lists.{numbers_below}
use Rattle.plan_report.specs.Names.{spaced}
use Rattle.plan_report.specs.Subjects.{subject_of}
use Rattle.aces_who.specs.Ties.{is_tied}
use Rattle.aces_who.proofs.objects.put_tied.Given as goal

abbrev pub invariant-loop-compartment : goal.invariant-loop-compartment
invariant-loop-compartment l = l.text ≡ l.initial.text ++ spaced (map decimal (filter (is_tied (subject_of l.subject) l.tie) (numbers_below l.compartment)))

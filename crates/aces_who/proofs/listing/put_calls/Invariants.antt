use Rattle.std.proofs.Common.{◌≡◌, ◌++◌, flat_map}
use Rattle.plan_model.specs.Lists.{numbers_below}
use Rattle.plan_report.specs.Subjects.{subject_of}
use Rattle.aces_who.specs.WhoLines.{caller_lines}
use Rattle.aces_who.proofs.listing.put_calls.Given as goal

abbrev pub invariant-loop-caller : goal.invariant-loop-caller
invariant-loop-caller l = l.text ≡ l.initial.text ++ flat_map (caller_lines (subject_of l.subject)) (numbers_below l.caller)

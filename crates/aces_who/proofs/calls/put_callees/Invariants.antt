use Rattle.std.proofs.Common.{◌≡◌, ◌++◌, flat_map, filter, take}
use Rattle.plan_report.specs.Subjects.{subject_of}
use Rattle.aces_who.specs.Calls.{crosses_to}
use Rattle.aces_who.specs.WhoLines.{call_line}
use Rattle.aces_who.proofs.calls.put_callees.Given as goal

abbrev pub invariant-loop-i : goal.invariant-loop-i
invariant-loop-i l = l.text ≡ l.initial.text ++ flat_map (call_line (subject_of l.subject) l.caller) (filter (crosses_to (subject_of l.subject) l.caller) (take l.i l.callees))

use Rattle.std.proofs.Common.{◌≡◌, ◌++◌, flat_map, take}
use Rattle.plan_report.specs.Subjects.{subject_of}
use Rattle.image_symbols.specs.CodeLines.{places_of_function}
use Rattle.image_symbols.proofs.code_lines.put_code.Given as goal

abbrev pub invariant-loop-i : goal.invariant-loop-i
invariant-loop-i l = l.text ≡ l.initial.text ++ flat_map (places_of_function (subject_of l.subject)) (take l.i l.all)

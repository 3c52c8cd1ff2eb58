use Rattle.std.proofs.Common.{◌≡◌, ◌++◌, flat_map, take}
use Rattle.plan_report.specs.Subjects.{subject_of}
use Rattle.image_symbols.specs.DataLines.{global_line}
use Rattle.image_symbols.proofs.data_lines.put_variables.Given as goal

abbrev pub invariant-loop-i : goal.invariant-loop-i
invariant-loop-i l = l.text ≡ l.initial.text ++ flat_map (global_line (subject_of l.subject)) (take l.i l.globals)

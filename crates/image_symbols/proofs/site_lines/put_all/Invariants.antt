use Rattle.std.proofs.Common.{◌≡◌, ◌++◌, flat_map, take}
use Rattle.plan_report.specs.Subjects.{subject_of}
use Rattle.image_symbols.specs.SiteLines.{site_line}
use Rattle.image_symbols.proofs.site_lines.put_all.Given as goal

abbrev pub invariant-loop-i : goal.invariant-loop-i
invariant-loop-i l = l.text ≡ l.initial.text ++ flat_map (site_line (subject_of l.subject)) (take l.i l.sites)

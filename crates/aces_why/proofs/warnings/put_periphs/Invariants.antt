use Rattle.std.proofs.Common.{◌≡◌, ◌++◌, map, take}
use Rattle.ir_program.specs.Parts.{span_of}
use Rattle.aces_why.specs.Warnings.{periph_line}
use Rattle.aces_why.specs.Numbered.{numbered}
use Rattle.aces_why.specs.Subjects.{subject_of}
use Rattle.aces_why.proofs.warnings.put_periphs.Given as goal

abbrev pub invariant-loop-periph : goal.invariant-loop-periph
invariant-loop-periph l = l.text ≡ l.initial.text ++ numbered (periph_line (subject_of l.subject)) 0 (map span_of (take l.periph l.periphs))

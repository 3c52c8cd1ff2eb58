use Rattle.std.proofs.Common.{◌≡◌, ◌++◌, List, map, take}
use Rattle.ir_model.specs.Layout.{Known}
use Rattle.ir_program.specs.Parts.{sequence_of}
use Rattle.aces_why.specs.Shared.{shared_line}
use Rattle.aces_why.specs.Numbered.{numbered}
use Rattle.aces_why.specs.Subjects.{subject_of}
use Rattle.aces_why.proofs.shared.put_rows.Given as goal

abbrev pub invariant-loop-register : goal.invariant-loop-register
invariant-loop-register l = (ks : List Known) → l.text ≡ l.initial.text ++ numbered (shared_line (subject_of l.subject) l.func (map (sequence_of ks) l.blocks)) 0 (take l.register l.rows)

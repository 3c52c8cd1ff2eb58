use Rattle.std.proofs.Common.{◌≡◌, ◌++◌, List, map, take}
use Rattle.ir_model.specs.Layout.{Known}
use Rattle.ir_program.specs.Parts.{operation_of}
use Rattle.aces_why.specs.Lines.{inst_line}
use Rattle.aces_why.specs.Numbered.{numbered}
use Rattle.aces_why.specs.Subjects.{subject_of}
use Rattle.aces_why.proofs.uses.put_block_uses.Given as goal

abbrev pub invariant-loop-inst : goal.invariant-loop-inst
invariant-loop-inst l = (ks : List Known) → l.text ≡ l.initial.text ++ numbered (inst_line (subject_of l.subject) l.func l.block) 0 (map (operation_of ks) (take l.inst l.operations))

use Rattle.std.proofs.Common.{◌≡◌, ◌++◌, List, map, take}
use Rattle.ir_model.specs.Layout.{Known}
use Rattle.ir_program.specs.Parts.{operation_of}
use Rattle.aces_why.specs.Warnings.{const_line}
use Rattle.aces_why.specs.Numbered.{numbered}
use Rattle.aces_why.specs.Subjects.{subject_of}
use Rattle.aces_why.proofs.warnings.put_insts.Given as goal

abbrev pub invariant-loop-inst : goal.invariant-loop-inst
invariant-loop-inst l = (ks : List Known) → l.text ≡ l.initial.text ++ numbered (const_line (subject_of l.subject) l.func l.block) 0 (map (operation_of ks) (take l.inst l.operations))

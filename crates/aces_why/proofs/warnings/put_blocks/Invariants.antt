use Rattle.std.proofs.Common.{◌≡◌, ◌++◌, List, map, take}
use Rattle.ir_model.specs.Layout.{Known}
use Rattle.ir_program.specs.Parts.{sequence_of}
use Rattle.aces_why.specs.Warnings.{block_warnings}
use Rattle.aces_why.specs.Numbered.{numbered}
use Rattle.aces_why.specs.Subjects.{subject_of}
use Rattle.aces_why.proofs.warnings.put_blocks.Given as goal

abbrev pub invariant-loop-block : goal.invariant-loop-block
invariant-loop-block l = (ks : List Known) → l.text ≡ l.initial.text ++ numbered (block_warnings (subject_of l.subject) l.func) 0 (map (sequence_of ks) (take l.block l.blocks))

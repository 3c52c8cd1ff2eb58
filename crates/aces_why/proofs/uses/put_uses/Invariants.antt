use Rattle.std.proofs.Common.{◌≡◌, ◌++◌, List, map, take}
use Rattle.ir_model.specs.Layout.{Known}
use Rattle.ir_program.specs.Parts.{routine_of}
use Rattle.aces_why.specs.Lines.{func_lines}
use Rattle.aces_why.specs.Numbered.{numbered}
use Rattle.aces_why.specs.Subjects.{subject_of}
use Rattle.aces_why.proofs.uses.put_uses.Given as goal

abbrev pub invariant-loop-func : goal.invariant-loop-func
invariant-loop-func l = (ks : List Known) → l.text ≡ l.initial.text ++ numbered (func_lines (subject_of l.subject)) 0 (map (routine_of ks) (take l.func l.funcs))

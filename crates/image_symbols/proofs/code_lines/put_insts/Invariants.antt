use Rattle.std.proofs.Common.{◌≡◌, ◌++◌, flat_map, IfSome}
use Rattle.plan_model.specs.Lists.{numbers_below}
use Rattle.ir_program.specs.Seen.{program_of}
use Rattle.image_entries.specs.Walked.{IsReachedIn}
use Rattle.plan_report.specs.Subjects.{subject_of}
use Rattle.image_symbols.specs.CodeLines.{inst_line}
use Rattle.image_symbols.proofs.code_lines.put_insts.Given as goal

abbrev pub invariant-loop-number : goal.invariant-loop-number
invariant-loop-number l = record {
  reached : IfSome l.at (IsReachedIn (program_of l.subject.program.now) l.parts.numbers l.of.number);
  text : l.text ≡ l.initial.text ++ flat_map (inst_line (subject_of l.subject) l.of l.fn.end.block) (numbers_below l.number);
}

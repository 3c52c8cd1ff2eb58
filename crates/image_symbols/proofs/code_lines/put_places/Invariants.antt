use Rattle.std.proofs.Common.{◌≡◌, ◌++◌, flat_map, IfSome}
use Rattle.plan_model.specs.Lists.{numbers_below}
use Rattle.ir_program.specs.Seen.{program_of}
use Rattle.image_entries.specs.Walked.{IsReachedIn}
use Rattle.plan_report.specs.Subjects.{subject_of}
use Rattle.image_symbols.specs.CodeLines.{places_of_block}
use Rattle.image_symbols.proofs.code_lines.put_places.Given as goal

abbrev pub invariant-loop-block : goal.invariant-loop-block
invariant-loop-block l = record {
  reached : IfSome l.last (IsReachedIn (program_of l.subject.program.now) l.parts.numbers l.of.number);
  text : l.text ≡ l.initial.text ++ flat_map (places_of_block (subject_of l.subject) l.of) (numbers_below l.block);
}

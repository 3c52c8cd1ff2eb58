use Rattle.std.proofs.Common.{◌++◌, map, ap, ◌∙◌, append_assoc}
use Rattle.std.proofs.lemmas.Result.{on_ok_weaker}
use Rattle.ir_program.specs.Parts.{sequence_of}
use Rattle.aces_why.specs.Numbered.{numbered}
use Rattle.aces_why.specs.Warnings.{uncalled_line, block_warnings}
use Rattle.aces_why.specs.Subjects.{subject_of}
use Rattle.aces_why.proofs.warnings.put_func_warnings.Goals as goal

pub returns : goal.returns
returns c =
    on_ok_weaker c.put_blocks.result
    (λ e ks.
    let front = uncalled_line (subject_of c.args.subject.now) c.args.func in
    let back = numbered (block_warnings (subject_of c.args.subject.now) c.args.func) 0 (map (sequence_of ks) c.args.blocks.now) in
    e ks ∙ (ap (λ t. t ++ back) c.in_ok-put_uncalled.ensures ∙ append_assoc c.args.text.now front back))
    c.put_blocks.ensures

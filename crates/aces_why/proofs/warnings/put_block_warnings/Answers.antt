use Rattle.std.proofs.Common.{◌++◌, map, ap, ◌∙◌, append_assoc}
use Rattle.std.proofs.lemmas.Result.{on_ok_weaker}
use Rattle.ir_program.specs.Parts.{operation_of}
use Rattle.aces_why.specs.Numbered.{numbered}
use Rattle.aces_why.specs.Warnings.{unreached_line, const_line}
use Rattle.aces_why.specs.Subjects.{subject_of}
use Rattle.aces_why.proofs.warnings.put_block_warnings.Goals as goal

pub returns : goal.returns
returns c =
    on_ok_weaker c.put_insts.result
    (λ e ks.
    let front = unreached_line (subject_of c.args.subject.now) c.args.func c.args.block in
    let back = numbered (const_line (subject_of c.args.subject.now) c.args.func c.args.block) 0 (map (operation_of ks) c.args.operations.now) in
    e ks ∙ (ap (λ t. t ++ back) c.in_ok-put_unreached.ensures ∙ append_assoc c.args.text.now front back))
    c.put_insts.ensures

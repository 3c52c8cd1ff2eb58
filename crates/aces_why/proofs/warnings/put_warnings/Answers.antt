use Rattle.std.proofs.Common.{◌++◌, ap, ◌∙◌, append_assoc}
use Rattle.std.proofs.lemmas.Result.{on_ok_weaker}
use Rattle.ir_program.specs.Seen.{known_of}
use Rattle.aces_why.specs.Numbered.{numbered}
use Rattle.aces_why.specs.Warnings.{periph_line, func_warnings}
use Rattle.aces_why.specs.Subjects.{subject_of}
use Rattle.aces_why.proofs.warnings.put_warnings.Goals as goal

pub returns : goal.returns
returns c =
    let s = subject_of c.args.subject.now in
    let front = numbered (periph_line s) 0 s.program.periphs in
    let back = numbered (func_warnings s) 0 s.program.funcs in
    on_ok_weaker c.put_funcs.result
    (λ e. rw c.as_slice-2.ensures at (e (known_of c.args.subject.now.program.now)) ∙ (ap (λ t. t ++ back) (rw c.as_slice.ensures at c.in_ok-put_periphs.ensures) ∙ append_assoc c.args.text.now front back))
    c.put_funcs.ensures

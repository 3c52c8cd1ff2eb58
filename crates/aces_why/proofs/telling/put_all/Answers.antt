use Rattle.std.proofs.lemmas.Result.{on_ok_weaker}
use Rattle.ir_program.specs.Seen.{known_of}
use Rattle.aces_why.specs.Subjects.{subject_of}
use Rattle.aces_why.proofs.Whole.{all_put}
use Rattle.aces_why.proofs.telling.put_all.Goals as goal

pub returns : goal.returns
returns c =
    let ks = known_of c.args.subject.now.program.now in
    on_ok_weaker c.put_warnings.result
    (λ e.
    all_put (subject_of c.args.subject.now) c.args.text.now c.put_uses.new.text c.put_shared.new.text c.put_warnings.new.text
    (rw c.as_slice-funcs.ensures at (c.in_ok-put_uses.ensures ks)) (rw c.as_slice-funcs.ensures at (c.in_ok-put_shared.ensures ks)) e)
    c.put_warnings.ensures

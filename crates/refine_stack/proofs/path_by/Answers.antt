use Rattle.std.proofs.Common.{subst}
use Rattle.refine_stack.specs.Worst.{IsWorstBy}
use Rattle.refine_stack.proofs.Whole.{found_by}
use Rattle.refine_stack.proofs.path_by.Goals as goal

pub returns : goal.returns
returns c =
    let d = c.in_ok-taken.ensures in
    found_by c.args.frames.now c.args.stack c.args.calls.now c.args.main c.in_ok-taken.taken.items c.requires.none d.sound d.closed d.first c.in_ok-answer.answer
    (subst (λ l. IsWorstBy c.args.frames.now c.args.stack c.args.calls.now c.args.main l c.in_ok-answer.answer) c.as_slice.ensures.value c.in_ok-answer.ensures)

use Rattle.std.proofs.Common.{◌≡◌, length, get_or, set, sym, ap, subst, ◌∙◌, arith}
use Rattle.refine_stack.specs.Taken.{IsSound}
use Rattle.refine_stack.proofs.Slices.{whole_again}
use Rattle.refine_stack.proofs.deepest.deepest.Goals as goal

pub returns-clause-sound : goal.returns-clause-sound
returns-clause-sound c =
    let first = set c.in_ok-taken.taken.items c.args.main (get_or c.args.frames.now c.args.main 0) in
    let new = c.settle.new.taken in
    let l : length new ≡ length first = c.settle.auto.taken ∙ ap length c.as_mut_slice.ensures.value in
    let m = c.as_mut_slice.ensures.len in
    let a = c.settle.auto.taken in
    let n : c.in_ok-taken.taken.len ≡ length new = omega arith in
    let e = whole_again first new c.in_ok-taken.taken.len n l in
    subst (IsSound c.args.frames.now c.args.stack c.args.calls.now c.args.main) (sym e) c.in_ok-settle.ensures.sound

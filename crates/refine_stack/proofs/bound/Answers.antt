use Rattle.std.proofs.Common.{◌≡◌, length, sym, ap, subst, ◌∙◌}
use Rattle.ir_program.specs.Seen.{program_of}
use Rattle.refine_stack.specs.Listed.{AreThere}
use Rattle.refine_stack.specs.Found.{IsAnswerBy}
use Rattle.refine_stack.proofs.Whole.{are_there, is_answer, stack_least}
use Rattle.refine_stack.proofs.bound.Goals as goal

pub bound_by-requires-clause-stack : goal.bound_by-requires-clause-stack
bound_by-requires-clause-stack c = stack_least c.args.stack c.requires.stack

pub bound_by-requires-clause-there : goal.bound_by-requires-clause-there
bound_by-requires-clause-there c =
    let p = program_of c.args.program.now in
    let cs = c.in_ok-calls.calls.items in
    let e : length p.funcs ≡ length c.as_slice-2.result.now = sym c.in_ok-frames.ensures.count ∙ ap length (sym c.as_slice-2.ensures.value) in
    subst (λ l. AreThere (length c.as_slice-2.result.now) l) (sym c.as_slice.ensures.value)
    (subst (λ k. AreThere k cs) e (are_there p c.args.needs.now c.args.groups.now cs c.in_ok-calls.ensures c.requires.there))

pub returns : goal.returns
returns c =
    let p = program_of c.args.program.now in
    let cs = c.in_ok-calls.calls.items in
    let frames = c.in_ok-frames.frames.items in
    let a = c.in_ok-answer.answer in
    let h = subst (λ l. IsAnswerBy frames c.args.stack l p.main a) c.as_slice.ensures.value
    (subst (λ l. IsAnswerBy l c.args.stack c.as_slice.result.now p.main a) c.as_slice-2.ensures.value c.in_ok-answer.ensures) in
    is_answer p c.args.needs.now c.args.groups.now cs c.in_ok-calls.ensures c.args.stack frames c.requires.there c.requires.main c.in_ok-frames.ensures (stack_least c.args.stack c.requires.stack) a h

use Rattle.std.proofs.Common.{◌≡◌, pos, ◌+◌, ◌%◌, [], ◌∷◌, OnOk, subst, ap, sym, ◌∙◌, arith}
use Rattle.machine_thumb.specs.declared.table.Instr.TheVariants.{BranchWide}
use Rattle.monitor_steps.specs.Steps.{End}
use Rattle.monitor_steps.specs.Lists.{before, steps_of}
use Rattle.monitor_steps.specs.Code.{code, code_length}
use Rattle.monitor_steps.proofs.CodeParts.{code_has_its_length, length_even}
use Rattle.monitor_assembler.specs.Emitted.{MayPut, HasPut, choice_code, loop_head, loop_end}
use Rattle.monitor_assembler.proofs.Alone.{alone-Test, alone-Repeat}
use Rattle.monitor_assembler.proofs.Splits.{length-take_more, length-take-le}
use Rattle.monitor_assembler.proofs.Nested.{may_put_step, step_is_put, may_put_first, may_put_second, test_is_put, may_put_body, loop_is_put}
use Rattle.monitor_assembler.proofs.assembling.+assembling.Goals as goal
use Rattle.base_laws.proofs.Options.{on_ok}

pub assemble-put_step-requires : goal.assemble-put_step-requires
assemble-put_step-requires t c =
    let i = c.loop-step.step-index in
    let s = c.step-item.result in
    let m = length-take_more c.args.steps.now i s c.loop-step-test.true in
    let l = length-take-le c.args.steps.now (i + 1) in
    let e = ap (λ x. code_length (before x End)) c.step-item.is in
    (omega (arith, m, l, e, c.decreases), may_put_step c.args.asm.now c.loop-step.asm c.args.steps.now i s s c.loop-step-test.true c.step-item.is c.requires c.loop-step.invariant)

pub assemble-loop-step-preserved : goal.assemble-loop-step-preserved
assemble-loop-step-preserved t c =
    let s = c.step-item.result in
    step_is_put c.args.asm.now c.loop-step.asm c.put_step.new.asm c.args.steps.now c.loop-step.step-index s s c.loop-step-test.true c.step-item.is c.loop-step.invariant c.in_ok-put_step.ensures

-- ---- a test

pub put_step-length_of-first-requires : goal.put_step-length_of-first-requires
put_step-length_of-first-requires t c =
    let e = ap code_length (alone-Test c.args.step.now _ _ _ _ _ c.in-Test.is) in
    let v = ap (λ ss. code_length (steps_of ss)) c.deref.ensures.value in
    omega (arith, e, v, c.requires.short)

pub put_step-length_of-second-requires : goal.put_step-length_of-second-requires
put_step-length_of-second-requires t c =
    let e = ap code_length (alone-Test c.args.step.now _ _ _ _ _ c.in-Test.is) in
    let v = ap (λ ss. code_length (steps_of ss)) c.deref-in-Test.ensures.value in
    omega (arith, e, v, c.requires.short)

pub put_step-put_choice-requires-clause-even : goal.put_step-put_choice-requires-clause-even
put_step-put_choice-requires-clause-even t c =
    subst (λ n. n % 2 ≡ 0) (sym c.length_of-first.ensures) (length_even (steps_of c.deref.result.now))

pub put_step-put_choice-requires-clause-short : goal.put_step-put_choice-requires-clause-short
put_step-put_choice-requires-clause-short t c =
    let e = ap code_length (alone-Test c.args.step.now _ _ _ _ _ c.in-Test.is) in
    let v = ap (λ ss. code_length (steps_of ss)) c.deref.ensures.value in
    omega (arith, e, v, c.requires.short, c.length_of-first.ensures)

pub put_step-assemble-requires : goal.put_step-assemble-requires
put_step-assemble-requires t c =
    let f = alone-Test c.args.step.now _ _ _ _ _ c.in-Test.is in
    let e = ap code_length f in
    let v = ap (λ ss. code_length (steps_of ss)) c.deref-in-Test-2.ensures.value in
    let m = may_put_first c.args.asm.now c.put_choice.new.asm c.in-Test.cond c.in-Test.a c.in-Test.b (steps_of c.in-Test.yes.items) (steps_of c.in-Test.no.items) (subst (MayPut c.args.asm.now) f c.requires) c.in_ok-put_choice-in-Test.ensures.next in
    (omega (arith, e, v), subst (λ ss. MayPut c.put_choice.new.asm (steps_of ss)) (sym c.deref-in-Test-2.ensures.value) m)

pub put_step-put_skip-requires-clause-even : goal.put_step-put_skip-requires-clause-even
put_step-put_skip-requires-clause-even t c =
    subst (λ n. n % 2 ≡ 0) (sym c.length_of-second.ensures) (length_even (steps_of c.deref-in-Test.result.now))

pub put_step-put_skip-requires-clause-short : goal.put_step-put_skip-requires-clause-short
put_step-put_skip-requires-clause-short t c =
    let e = ap code_length (alone-Test c.args.step.now _ _ _ _ _ c.in-Test.is) in
    let v = ap (λ ss. code_length (steps_of ss)) c.deref-in-Test.ensures.value in
    omega (arith, e, v, c.requires.short, c.length_of-second.ensures)

pub put_step-put_skip-requires-clause-room : goal.put_step-put_skip-requires-clause-room
put_step-put_skip-requires-clause-room t c =
    let e = ap code_length (alone-Test c.args.step.now _ _ _ _ _ c.in-Test.is) in
    let v = ap (λ ss. code_length (steps_of ss)) c.deref-in-Test-2.ensures.value in
    let l = code_has_its_length (steps_of c.deref-in-Test-2.result.now) in
    omega (arith, e, v, l, c.requires.room, c.in_ok-put_choice-in-Test.ensures.next, c.in_ok-assemble-in-Test.ensures.next)

pub put_step-assemble-requires-in-Test : goal.put_step-assemble-requires-in-Test
put_step-assemble-requires-in-Test t c =
    let f = alone-Test c.args.step.now _ _ _ _ _ c.in-Test.is in
    let e = ap code_length f in
    let v = ap (λ ss. code_length (steps_of ss)) c.deref-in-Test-2.ensures.value in
    let w = ap (λ ss. code_length (steps_of ss)) c.deref-in-Test-3.ensures.value in
    let l = code_has_its_length (steps_of c.deref-in-Test-2.result.now) in
    let m = may_put_second c.args.asm.now c.put_skip.new.asm c.in-Test.cond c.in-Test.a c.in-Test.b (steps_of c.in-Test.yes.items) (steps_of c.in-Test.no.items) (subst (MayPut c.args.asm.now) f c.requires) (omega (arith, v, l, c.in_ok-put_choice-in-Test.ensures.next, c.in_ok-assemble-in-Test.ensures.next, c.in_ok-put_skip-in-Test.ensures.next)) in
    (omega (arith, e, w), subst (λ ss. MayPut c.put_skip.new.asm (steps_of ss)) (sym c.deref-in-Test-3.ensures.value) m)

pub put_step-returns-in_ok-put_skip-in-Test : goal.put_step-returns-in_ok-put_skip-in-Test
put_step-returns-in_ok-put_skip-in-Test t c =
    let a = c.args.asm.now in
    let z = c.assemble-in-Test.new.asm in
    let f = alone-Test c.args.step.now _ _ _ _ _ c.in-Test.is in
    let ys = steps_of c.in-Test.yes.items in
    let ns = steps_of c.in-Test.no.items in
    let first = c.length_of-first.ensures ∙ ap (λ ss. code_length (steps_of ss)) c.deref.ensures.value in
    let second = c.length_of-second.ensures ∙ ap (λ ss. code_length (steps_of ss)) c.deref-in-Test.ensures.value in
    let p = subst (λ n. HasPut a c.put_choice.new.asm (choice_code c.in-Test.cond c.in-Test.a c.in-Test.b n)) first c.in_ok-put_choice-in-Test.ensures in
    let q = subst (λ ss. HasPut c.put_choice.new.asm c.assemble.new.asm (code (steps_of ss))) c.deref-in-Test-2.ensures.value c.in_ok-assemble-in-Test.ensures in
    let r = subst (λ n. HasPut c.assemble.new.asm c.put_skip.new.asm (BranchWide (pos n) ∷ [])) second c.in_ok-put_skip-in-Test.ensures in
    let s = subst (λ ss. OnOk c.assemble-in-Test.result (HasPut c.put_skip.new.asm z (code (steps_of ss)))) c.deref-in-Test-3.ensures.value c.assemble-in-Test.ensures in
    on_ok c.assemble-in-Test.result (λ (x : HasPut c.put_skip.new.asm z (code ns)). subst (λ l. HasPut a z (code l)) (sym f) (test_is_put a c.put_choice.new.asm c.assemble.new.asm c.put_skip.new.asm z c.in-Test.cond c.in-Test.a c.in-Test.b ys ns p q r x)) s

-- ---- a loop

pub put_step-length_of-length-requires : goal.put_step-length_of-length-requires
put_step-length_of-length-requires t c =
    let e = ap code_length (alone-Repeat c.args.step.now _ _ _ c.in-Repeat.is) in
    let v = ap (λ ss. code_length (steps_of ss)) c.deref-in-Repeat.ensures.value in
    omega (arith, e, v, c.requires.short)

pub put_step-put_loop_head-requires-clause-even : goal.put_step-put_loop_head-requires-clause-even
put_step-put_loop_head-requires-clause-even t c =
    subst (λ n. n % 2 ≡ 0) (sym c.length_of-length.ensures) (length_even (steps_of c.deref-in-Repeat.result.now))

pub put_step-put_loop_head-requires-clause-short : goal.put_step-put_loop_head-requires-clause-short
put_step-put_loop_head-requires-clause-short t c =
    let e = ap code_length (alone-Repeat c.args.step.now _ _ _ c.in-Repeat.is) in
    let v = ap (λ ss. code_length (steps_of ss)) c.deref-in-Repeat.ensures.value in
    omega (arith, e, v, c.requires.short, c.length_of-length.ensures)

pub put_step-assemble-requires-in-Repeat : goal.put_step-assemble-requires-in-Repeat
put_step-assemble-requires-in-Repeat t c =
    let f = alone-Repeat c.args.step.now _ _ _ c.in-Repeat.is in
    let e = ap code_length f in
    let v = ap (λ ss. code_length (steps_of ss)) c.deref-in-Repeat-2.ensures.value in
    let m = may_put_body c.args.asm.now c.put_loop_head.new.asm c.in-Repeat.left c.in-Repeat.most (steps_of c.in-Repeat.body.items) (subst (MayPut c.args.asm.now) f c.requires) c.in_ok-put_loop_head-in-Repeat.ensures.next in
    (omega (arith, e, v), subst (λ ss. MayPut c.put_loop_head.new.asm (steps_of ss)) (sym c.deref-in-Repeat-2.ensures.value) m)

pub put_step-put_loop_end-requires-clause-even : goal.put_step-put_loop_end-requires-clause-even
put_step-put_loop_end-requires-clause-even t c =
    subst (λ n. n % 2 ≡ 0) (sym c.length_of-length.ensures) (length_even (steps_of c.deref-in-Repeat.result.now))

pub put_step-put_loop_end-requires-clause-short : goal.put_step-put_loop_end-requires-clause-short
put_step-put_loop_end-requires-clause-short t c =
    let e = ap code_length (alone-Repeat c.args.step.now _ _ _ c.in-Repeat.is) in
    let v = ap (λ ss. code_length (steps_of ss)) c.deref-in-Repeat.ensures.value in
    omega (arith, e, v, c.requires.short, c.length_of-length.ensures)

pub put_step-put_loop_end-requires-clause-room : goal.put_step-put_loop_end-requires-clause-room
put_step-put_loop_end-requires-clause-room t c =
    let e = ap code_length (alone-Repeat c.args.step.now _ _ _ c.in-Repeat.is) in
    let v = ap (λ ss. code_length (steps_of ss)) c.deref-in-Repeat-2.ensures.value in
    let l = code_has_its_length (steps_of c.deref-in-Repeat-2.result.now) in
    omega (arith, e, v, l, c.requires.room, c.in_ok-put_loop_head-in-Repeat.ensures.next, c.in_ok-assemble-in-Repeat.ensures.next)

pub put_step-returns-in_ok-assemble-in-Repeat : goal.put_step-returns-in_ok-assemble-in-Repeat
put_step-returns-in_ok-assemble-in-Repeat t c =
    let a = c.args.asm.now in
    let z = c.put_loop_end.new.asm in
    let f = alone-Repeat c.args.step.now _ _ _ c.in-Repeat.is in
    let body = steps_of c.in-Repeat.body.items in
    let left = c.in-Repeat.left in
    let n = c.length_of-length.ensures ∙ ap (λ ss. code_length (steps_of ss)) c.deref-in-Repeat.ensures.value in
    let p = subst (λ n. HasPut a c.put_loop_head.new.asm (loop_head left n)) n c.in_ok-put_loop_head-in-Repeat.ensures in
    let q = subst (λ ss. HasPut c.put_loop_head.new.asm c.assemble-in-Repeat.new.asm (code (steps_of ss))) c.deref-in-Repeat-2.ensures.value c.in_ok-assemble-in-Repeat.ensures in
    let r = subst (λ n. OnOk c.put_loop_end.result (HasPut c.assemble-in-Repeat.new.asm z (loop_end left n))) n c.put_loop_end.ensures in
    on_ok c.put_loop_end.result (λ (x : HasPut c.assemble-in-Repeat.new.asm z (loop_end left (code_length body))). subst (λ l. HasPut a z (code l)) (sym f) (loop_is_put a c.put_loop_head.new.asm c.assemble-in-Repeat.new.asm z left c.in-Repeat.most body p q x)) r

use Rattle.std.proofs.Common.{◌+◌, ap, arith}
use Rattle.monitor_steps.specs.Steps.{End}
use Rattle.monitor_steps.specs.Lists.{before, steps_of}
use Rattle.monitor_steps.specs.Code.{code_length}
use Rattle.monitor_assembler.proofs.Alone.{alone-Test, alone-Repeat}
use Rattle.monitor_assembler.proofs.Splits.{length-take_more, length-take-le}
use Rattle.monitor_assembler.proofs.lengths.+lengths.Goals as goal

pub length_of-step_length-length-requires : goal.length_of-step_length-length-requires
length_of-step_length-length-requires t c =
    let i = c.loop-step.step-index in
    let m = length-take_more c.args.steps.now i c.step-item.result c.loop-step-test.true in
    let l = length-take-le c.args.steps.now (i + 1) in
    let e = ap (λ s. code_length (before s End)) c.step-item.is in
    (omega (arith, m, l, e, c.decreases), omega (arith, m, l, e))

pub length_of-overflow_add-length : goal.length_of-overflow_add-length
length_of-overflow_add-length t c =
    let i = c.loop-step.step-index in
    let m = length-take_more c.args.steps.now i c.step-item.result c.loop-step-test.true in
    let l = length-take-le c.args.steps.now (i + 1) in
    let e = ap (λ s. code_length (before s End)) c.step-item.is in
    omega (arith, m, l, e)

pub length_of-loop-step-preserved : goal.length_of-loop-step-preserved
length_of-loop-step-preserved t c =
    let i = c.loop-step.step-index in
    let m = length-take_more c.args.steps.now i c.step-item.result c.loop-step-test.true in
    let e = ap (λ s. code_length (before s End)) c.step-item.is in
    omega (arith, m, e)

pub step_length-length_of-requires : goal.step_length-length_of-requires
step_length-length_of-requires t c =
    let e = ap code_length (alone-Test c.args.step.now _ _ _ _ _ c.in-Test.is) in
    let v = ap (λ ss. code_length (steps_of ss)) c.deref.ensures.value in
    (omega (arith, e, v), omega (arith, e, v))

pub step_length-overflow_add-result : goal.step_length-overflow_add-result
step_length-overflow_add-result t c =
    let e = ap code_length (alone-Test c.args.step.now _ _ _ _ _ c.in-Test.is) in
    let v = ap (λ ss. code_length (steps_of ss)) c.deref.ensures.value in
    omega (arith, e, v)

pub step_length-length_of-requires-in-Test : goal.step_length-length_of-requires-in-Test
step_length-length_of-requires-in-Test t c =
    let e = ap code_length (alone-Test c.args.step.now _ _ _ _ _ c.in-Test.is) in
    let v = ap (λ ss. code_length (steps_of ss)) c.deref-in-Test.ensures.value in
    (omega (arith, e, v), omega (arith, e, v))

pub step_length-overflow_add-result-in-Test : goal.step_length-overflow_add-result-in-Test
step_length-overflow_add-result-in-Test t c =
    let e = ap code_length (alone-Test c.args.step.now _ _ _ _ _ c.in-Test.is) in
    let v = ap (λ ss. code_length (steps_of ss)) c.deref.ensures.value in
    let w = ap (λ ss. code_length (steps_of ss)) c.deref-in-Test.ensures.value in
    omega (arith, e, v, w)

pub step_length-returns-in-Test : goal.step_length-returns-in-Test
step_length-returns-in-Test t c =
    let e = ap code_length (alone-Test c.args.step.now _ _ _ _ _ c.in-Test.is) in
    let v = ap (λ ss. code_length (steps_of ss)) c.deref.ensures.value in
    let w = ap (λ ss. code_length (steps_of ss)) c.deref-in-Test.ensures.value in
    omega (arith, e, v, w)

pub step_length-length_of-requires-in-Repeat : goal.step_length-length_of-requires-in-Repeat
step_length-length_of-requires-in-Repeat t c =
    let e = ap code_length (alone-Repeat c.args.step.now _ _ _ c.in-Repeat.is) in
    let v = ap (λ ss. code_length (steps_of ss)) c.deref-in-Repeat.ensures.value in
    (omega (arith, e, v), omega (arith, e, v))

pub step_length-overflow_add-result-in-Repeat : goal.step_length-overflow_add-result-in-Repeat
step_length-overflow_add-result-in-Repeat t c =
    let e = ap code_length (alone-Repeat c.args.step.now _ _ _ c.in-Repeat.is) in
    let v = ap (λ ss. code_length (steps_of ss)) c.deref-in-Repeat.ensures.value in
    omega (arith, e, v)

pub step_length-returns-in-Repeat : goal.step_length-returns-in-Repeat
step_length-returns-in-Repeat t c =
    let e = ap code_length (alone-Repeat c.args.step.now _ _ _ c.in-Repeat.is) in
    let v = ap (λ ss. code_length (steps_of ss)) c.deref-in-Repeat.ensures.value in
    omega (arith, e, v)

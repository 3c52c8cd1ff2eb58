use Rattle.std.proofs.Common.{◌≡◌, ◌+◌, ◌-◌, ◌∷◌, [], ◌++◌, ℕ, List, length, length-append, replicate, ap, sym, ◌∙◌, arith, append_assoc, append-nil}
use Rattle.std.proofs.lemmas.List.{replicate_more, length-replicate}
use Rattle.monitor_code.proofs.page.filled_up.Goals as goal

pub loop-init : goal.loop-init
loop-init c =
    let xs = c.args.bytes.items in
    let e : c.len-counter.result - length xs ≡ 0 = omega (arith, c.len-counter.ensures) in
    sym (ap (λ n. xs ++ replicate n 0xFF) e ∙ append-nil xs)

pub loop-preserved : goal.loop-preserved
loop-preserved c =
    let xs = c.args.bytes.items in
    let k = c.loop.counter - length xs in
    let e : c.loop.counter + 1 - length xs ≡ k + 1 = omega (arith, c.len-counter.ensures, c.loop.auto.counter) in
    c.in_ok-push.ensures.items
    ∙ ap (λ ys. ys ++ (0xFF ∷ [])) c.loop.invariant
    ∙ append_assoc xs (replicate k 0xFF) (0xFF ∷ [])
    ∙ ap (λ ys. xs ++ ys) (replicate_more k 0xFF ∙ ap (λ n. replicate n 0xFF) (sym e))

pub returns-clause-filled : goal.returns-clause-filled
returns-clause-filled c =
    let xs = c.args.bytes.items in
    let e : c.loop.counter - length xs ≡ c.args.size - length xs = omega (arith, c.len-counter.ensures, c.requires, c.loop.auto.counter, c.loop.auto.counter-end, c.loop-test.false) in
    c.loop.invariant ∙ ap (λ n. xs ++ replicate n 0xFF) e

pub returns-clause-length : goal.returns-clause-length
returns-clause-length c =
    let xs = c.args.bytes.items in
    let e = ap (λ (ys : List ℕ). length ys) c.loop.invariant in
    omega (arith, e, length-append xs (replicate (c.loop.counter - length xs) 0xFF), length-replicate {A = ℕ} (c.loop.counter - length xs) 0xFF, c.len-counter.ensures, c.requires, c.loop.auto.counter, c.loop.auto.counter-end, c.loop-test.false)

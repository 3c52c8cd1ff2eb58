use Rattle.std.proofs.Common.{◌≡◌, ◌+◌, ◌-◌, [], ◌∷◌, ◌++◌, map, drop, ap, sym, ◌∙◌, append-nil, append_assoc, arith}
use Rattle.plan_model.specs.Slots as slots
use Rattle.image_blocks.specs.Uses.{use_of, slots_left}
use Rattle.image_blocks.proofs.slots.slot_regions.Goals as goal

pub returns : goal.returns
returns c =
    let k = c.loop-k.k in
    let xs = c.loop-k.regions.items in
    let us = c.args.uses.now in
    let e : c.args.count - k ≡ 0 = omega (arith, c.loop-k-test.false) in
    sym (append-nil xs) ∙ ap (λ n. xs ++ slots.slots_from (4 + k) n (map use_of (drop k us))) (sym e) ∙ c.loop-k.invariant

pub loop-k-preserved : goal.loop-k-preserved
loop-k-preserved c =
    let k = c.loop-k.k in
    let xs = c.loop-k.regions.items in
    let rest = slots_left (k + 1) c.args.count c.args.uses.now in
    ap (λ ys. ys ++ rest) c.in_ok-push.ensures.items
    ∙ append_assoc xs (c.in-Some.words ∷ []) rest
    ∙ ap (λ ys. xs ++ ys) (sym (c.in-Some.ensures c.args.count c.loop-k-test.true))
    ∙ c.loop-k.invariant

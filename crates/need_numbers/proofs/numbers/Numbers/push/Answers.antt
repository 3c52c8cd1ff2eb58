use Rattle.std.proofs.Common.{◌∙◌, ◌-◌, ◌++◌, ◌∷◌, [], ℕ, List, length, ap, arith}
use Rattle.need_numbers.specs.Stretches.{joined}
use Rattle.need_numbers.proofs.Cuts.{more_behind, alike_at, cut_either, pushed_either}
use Rattle.need_numbers.proofs.numbers.Numbers.push.Goals as goal

pub returns-then-count-eq0-clause-pushed : goal.returns-then-count-eq0-clause-pushed
returns-then-count-eq0-clause-pushed c =
    ap joined c.in_ok-push-2.ensures.items ∙ (more_behind c.self.inside.stretches.items c.args.number c.new-next.result _ c.new-next.ensures c.in_ok-push.ensures.pushed ∙ ap (λ (ys : List ℕ). ys ++ c.args.number ∷ []) c.self.view_is)

pub invariant_of-self-2 : goal.invariant_of-self-2
invariant_of-self-2 c =
    let ss = c.self.inside.stretches.items in
    let n = c.len-count.result - 1 in
    let l = c.len-count.ensures in
    let f = c.if-count-eq0.false in
    let x = c.index_mut.result.now in
    let s = ap length (alike_at ss n c.index.result.now x (omega arith) c.index.ensures c.index_mut.ensures.value) in
    let g = c.len.ensures in
    let h = c.if-len-eq256.false in
    cut_either c.push-2.result ss n c.args.number x c.push-2.new.self (omega arith) c.index_mut.ensures.value c.push-2.ensures.pushed c.push-2.ensures.kept (λ e. omega (arith, e, s, g, h)) c.self.invariant

pub returns-clause-pushed : goal.returns-clause-pushed
returns-clause-pushed c =
    let l = c.len-count.ensures in
    let f = c.if-count-eq0.false in
    pushed_either c.push-2.result c.self.inside.stretches.items (c.len-count.result - 1) c.args.number c.index_mut.result.now c.push-2.new.self c.args.self.now (omega arith) c.index_mut.ensures.value c.push-2.ensures.pushed c.self.view_is

use Rattle.std.proofs.Common.{◌≡◌, ◌+◌, false, length, sym, ap, subst, ◌∙◌, refl}
use Rattle.refine_stack.specs.Far.{IsLevel, AreFar}
use Rattle.refine_stack.proofs.Slices.{whole_again}
use Rattle.refine_stack.proofs.Levels.{AreFarUpTo, far_step, far_still}
use Rattle.refine_stack.proofs.cycles.distances.Goals as goal

pub returns-then-not-level-clause-far : goal.returns-then-not-level-clause-far
returns-then-not-level-clause-far c =
    let old = c.loop-more.far.items in
    let new = c.level.new.far in
    let l : length new ≡ length old = c.level.auto.far ∙ ap length c.as_mut_slice.ensures.value in
    let k = c.loop-more.far.ok.0 in
    let e = whole_again old new c.loop-more.far.len (k ∙ sym l) l in
    let s = subst (λ z. IsLevel c.args.calls.now c.args.to c.loop-more.more z new false) c.as_mut_slice.ensures.value c.if-not-level.ensures in
    subst (AreFar c.args.calls.now c.args.to) (sym e) (far_still c.args.calls.now c.args.to c.loop-more.more old new false c.loop-more.invariant.far s refl)

pub loop-more-preserved : goal.loop-more-preserved
loop-more-preserved c =
    let old = c.loop-more.far.items in
    let new = c.level.new.far in
    let l : length new ≡ length old = c.level.auto.far ∙ ap length c.as_mut_slice.ensures.value in
    let k = c.loop-more.far.ok.0 in
    let e = whole_again old new c.loop-more.far.len (k ∙ sym l) l in
    let s = subst (λ z. IsLevel c.args.calls.now c.args.to c.loop-more.more z new c.level.result) c.as_mut_slice.ensures.value c.level.ensures in
    record {
      count = ap length e ∙ (l ∙ c.loop-more.invariant.count);
      far = subst (AreFarUpTo c.args.calls.now c.args.to (c.loop-more.more + 1)) (sym e) (far_step c.args.calls.now c.args.to c.loop-more.more old new c.level.result c.loop-more.invariant.far s);
    }

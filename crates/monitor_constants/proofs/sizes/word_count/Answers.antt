use Rattle.std.proofs.Common.{◌*◌, ◌^◌, ◌≤◌, length, min, ap, ◌∙◌, arith}
use Rattle.std.specs.Prelude.{sum_by}
use Rattle.std.proofs.lemmas.List.{take_all}
use Rattle.monitor_model.specs.Records.{words_in}
use Rattle.monitor_constants.specs.Sizes.{most}
use Rattle.monitor_constants.proofs.Counted.{all_fit}
use Rattle.monitor_constants.proofs.sizes.word_count.Goals as goal

pub returns-clause-exact : goal.returns-clause-exact
returns-clause-exact c =
    let xs = c.args.inits.now in
    c.loop-init.invariant.exact ∙ ap (λ ys. min (sum_by words_in ys) most) (take_all c.loop-init.init-index xs (omega (arith, c.loop-init-test.false)))

pub returns-clause-whole : goal.returns-clause-whole
returns-clause-whole c = λ few.
    let xs = c.args.inits.now in
    let e = c.loop-init.invariant.exact ∙ ap (λ ys. min (sum_by words_in ys) most) (take_all c.loop-init.init-index xs (omega (arith, c.loop-init-test.false))) in
    let small : c.loop-init.count ≤ 2 ^ 30 * length xs = omega (arith, c.loop-init.invariant.small, c.loop-init.far-init-index) in
    all_fit c.loop-init.count (sum_by words_in xs) (length xs) e small few

use Rattle.std.proofs.Common.{◌≡◌, suc, ◌+◌, ◌-◌, ◌*◌, ◌∙◌, ap, arith}
use Rattle.monitor_steps.specs.Lists.{all_before}
use Rattle.monitor_program.specs.Opening as opening
use Rattle.monitor_lists.proofs.Listed.{one_region_more}
use Rattle.monitor_lists.proofs.opening.regions.Goals as goal

pub loop-i-preserved : goal.loop-i-preserved
loop-i-preserved c =
    let i = c.loop-i.i in
    let new = c.region.new.list.steps.items in
    let old = c.loop-i.list.steps.items in
    let left = c.args.count - (i + 1) in
    let at = c.args.from + 2 * i in
    let e : c.args.from + 2 * (i + 1) ≡ at + 2 = omega arith in
    let f : suc left ≡ c.args.count - i = omega arith in
    λ rest.
    ap (λ n. all_before new (opening.regions left n rest)) e
    ∙ one_region_more new old left at c.in_ok-region.ensures rest
    ∙ ap (λ n. all_before old (opening.regions n at rest)) f
    ∙ c.loop-i.invariant rest

use Rattle.std.proofs.Common.{ℕ, ◌+◌, ◌++◌, codes}
use Rattle.plan_model.specs.Lists.{numbers_below}
use Rattle.plan_model.proofs.Numbers.{numbers_more}
use Rattle.plan_report.proofs.Growing.{put_each}
use Rattle.aces_inspection.specs.CoreLines.{register_text}
use Rattle.aces_inspection.proofs.core_lines.put_behind.Goals as goal

pub loop-i-preserved : goal.loop-i-preserved
loop-i-preserved c =
    let i : ℕ = c.loop-i.i in
    put_each (λ k. codes " " ++ register_text c.args.core.now (1 + k)) (numbers_below i) _ i c.args.text.now c.loop-i.text _ (numbers_more i) c.loop-i.invariant
    c.in_ok-put_next.ensures

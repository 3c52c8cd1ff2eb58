use Rattle.std.proofs.Common.{ℕ, ◌++◌, get_or, ap, ◌∙◌}
use Rattle.plan_model.specs.Lists.{numbers_below}
use Rattle.plan_model.proofs.Numbers.{numbers_more}
use Rattle.plan_report.proofs.Growing.{put_each}
use Rattle.monitor_model.specs.Records.{lend_size}
use Rattle.aces_audit.specs.TableLines.{lent_line}
use Rattle.aces_audit.proofs.records.put_lents.Goals as goal

pub loop-i-preserved : goal.loop-i-preserved
loop-i-preserved c =
    let t = c.args.tables.now in
    let i : ℕ = c.loop-i.i in
    put_each (λ k. lent_line k (lend_size t k)) (numbers_below i) _ i c.args.text.now c.loop-i.text _ (numbers_more i) c.loop-i.invariant
    (c.in_ok-put_lent.ensures ∙ ap (λ xs. c.loop-i.text ++ lent_line i (get_or xs i 0)) c.as_slice-sizes.ensures)

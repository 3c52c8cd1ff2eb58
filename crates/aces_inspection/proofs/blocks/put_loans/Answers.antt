use Rattle.std.proofs.Common.{ℕ, ◌-◌}
use Rattle.plan_model.specs.Lists.{numbers_below}
use Rattle.plan_model.proofs.Numbers.{numbers_more}
use Rattle.plan_report.proofs.Growing.{put_each}
use Rattle.aces_inspection.specs.MemoryLines.{loan_line}
use Rattle.aces_inspection.proofs.blocks.put_loans.Goals as goal

pub loop-i-preserved : goal.loop-i-preserved
loop-i-preserved c =
    let i : ℕ = c.loop-i.i in
    let m = c.args.machine.now in
    put_each (λ k. loan_line m.image m.state c.args.block (c.min-count.result - 1 - k)) (numbers_below i) _ i c.args.text.now c.loop-i.text _ (numbers_more i) c.loop-i.invariant
    c.in_ok-put_loan.ensures

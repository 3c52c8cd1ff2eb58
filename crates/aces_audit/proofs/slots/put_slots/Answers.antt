use Rattle.std.proofs.Common.{ℕ, ◌+◌, get_or}
use Rattle.machine_protection.specs.Registers.{blank}
use Rattle.plan_model.specs.Lists.{numbers_below}
use Rattle.plan_model.proofs.Numbers.{numbers_more}
use Rattle.plan_report.proofs.Growing.{put_each}
use Rattle.aces_audit.specs.SlotLines.{slot_line}
use Rattle.aces_audit.proofs.slots.put_slots.Goals as goal

pub loop-i-preserved : goal.loop-i-preserved
loop-i-preserved c =
    let i : ℕ = c.loop-i.i in
    put_each (λ k. slot_line c.args.windows.now (4 + k) (get_or c.args.slots.now k blank)) (numbers_below i) _ i c.args.text.now c.loop-i.text _ (numbers_more i) c.loop-i.invariant c.in_ok-put_slot.ensures

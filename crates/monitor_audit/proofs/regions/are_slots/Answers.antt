use Rattle.std.proofs.Common.{sym, ◌∙◌}
use Rattle.machine_protection.specs.Registers.{blank}
use Rattle.monitor_audit.proofs.CheckTurns.{slot_passes}
use Rattle.monitor_audit.proofs.regions.are_slots.Goals as goal

pub loop-index-preserved : goal.loop-index-preserved
loop-index-preserved c =
    slot_passes c.args.image.now c.args.tables.now c.args.slots.now c.loop-index.index blank c.loop-index-test.true (sym c.is_slot.ensures ∙ c.if-not-is_slot.false)
    ∙ c.loop-index.invariant

use Rattle.ir_program.specs.Seen.{program_of}
use Rattle.image_model.specs.LinkedTables as records
use Rattle.image_blocks.proofs.slots.comp_records.Goals as goal
use Rattle.plan_model.proofs.Numbers.{mapped_more}

pub loop-compartment-preserved : goal.loop-compartment-preserved
loop-compartment-preserved c =
    mapped_more (records.comp_record (program_of c.args.program.now) c.args.graph.now c.args.plan.now c.args.slots) c.loop-compartment.compartment c.loop-compartment.all.items _ _ c.loop-compartment.invariant c.in_ok-comp_record.ensures c.in_ok-push.ensures.items

use Rattle.code_model.specs.CompartmentCode.{members_from}
use Rattle.plan_crossings.specs.Filled.{filled_total}
use Rattle.plan_sizes.proofs.functions.code_bytes.Goals as goal
use Rattle.plan_model.proofs.Numbers.{mapped_more}

pub loop-compartment-preserved : goal.loop-compartment-preserved
loop-compartment-preserved c =
    mapped_more (λ k. filled_total c.args.all.now (members_from 0 c.args.compartments.now k)) c.loop-compartment.compartment c.loop-compartment.code.items _ c.in-Some.bytes
    c.loop-compartment.invariant c.in-Some.ensures c.in_ok-push.ensures.items

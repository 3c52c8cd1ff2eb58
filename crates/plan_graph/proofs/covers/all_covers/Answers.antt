use Rattle.std.proofs.Common.{◌∙◌}
use Rattle.ir_program.specs.Seen.{program_of}
use Rattle.plan_model.specs.InitialGraph.{covers_of}
use Rattle.plan_graph.proofs.covers.all_covers.Goals as goal
use Rattle.plan_model.proofs.Numbers.{mapped_more}

pub loop-compartment-preserved : goal.loop-compartment-preserved
loop-compartment-preserved c =
    mapped_more (covers_of (program_of c.args.program.now) c.args.needs.now c.args.groups.now) c.loop-compartment.compartment c.loop-compartment.all.items _ c.new.result c.loop-compartment.invariant (c.new.ensures ∙ c.in_ok-covers.ensures) c.in_ok-push.ensures.items

use Rattle.ir_program.specs.Seen.{program_of}
use Rattle.plan_crossings.specs.Seen.{seen_sites}
use Rattle.plan_sizes.specs.Parts.{function_bytes}
use Rattle.plan_sizes.proofs.functions.all_bytes.Goals as goal
use Rattle.plan_model.proofs.Numbers.{mapped_more}

pub loop-func-preserved : goal.loop-func-preserved
loop-func-preserved c =
    mapped_more (function_bytes (program_of c.args.program.now) (seen_sites c.args.sites.now) c.args.lent.now) c.loop-func.func c.loop-func.all.items _ _
    c.loop-func.invariant c.in_ok-function_bytes.ensures c.in_ok-push.ensures.items

use Rattle.std.proofs.Common.{◌+◌, arith}
use Rattle.refine_stack.proofs.Chains.{goes_back}
use Rattle.refine_stack.proofs.worst.worst_path.Goals as goal

pub loop-k-preserved : goal.loop-k-preserved
loop-k-preserved c =
    goes_back c.args.frames.now c.args.stack c.args.calls.now c.args.taken.now c.args.main (c.from-needed.result + 32) c.loop-k.path.items c.push-in-loop-k.new.self.items c.loop-k.func c.in_ok-func.func
    c.loop-k.invariant c.in_ok-func.ensures (omega arith) c.in_ok-push-2.ensures.items

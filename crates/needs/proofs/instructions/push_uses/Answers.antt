use Rattle.std.proofs.Common.{arith}
use Rattle.ir_program.specs.Parts.{operation_of}
use Rattle.needs.specs.Uses.{used}
use Rattle.needs.proofs.Joined.{more, whole}
use Rattle.needs.proofs.instructions.push_uses.Goals as goal

pub loop-i-preserved : goal.loop-i-preserved
loop-i-preserved c = λ ks.
    more (operation_of ks) used c.args.operations.now c.args.uses.now.items c.loop-i.uses.items c.push_use.new.uses.items c.loop-i.i c.index-operations-i.result
    (omega arith) c.index-operations-i.is (c.loop-i.invariant ks) (c.in_ok-push_use.ensures ks)

pub returns : goal.returns
returns c = λ ks. whole (operation_of ks) used c.args.operations.now c.args.uses.now.items c.loop-i.uses.items c.loop-i.i (omega arith) (c.loop-i.invariant ks)

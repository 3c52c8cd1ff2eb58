use Rattle.std.proofs.Common.{map, arith}
use Rattle.ir_model.specs.Plain.{func_of}
use Rattle.ir_generator.proofs.Growing.{held_more}
use Rattle.ir_generator.proofs.make.held.Goals as goal

pub loop-number-preserved : goal.loop-number-preserved
loop-number-preserved c =
    held_more c.args.file c.loop-number.number c.args.choices.now _ (map func_of c.loop-number.funcs.items) _ (omega arith) c.loop-number.invariant c.in_ok-put_held.ensures

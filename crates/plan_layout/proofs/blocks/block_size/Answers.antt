use Rattle.std.proofs.Common.{sym, arith}
use Rattle.plan_model.proofs.Powers.{next_power_is_block}
use Rattle.plan_layout.proofs.blocks.block_size.Goals as goal

pub returns : goal.returns
returns c = sym (next_power_is_block c.args.bytes c.next_power_of_two.result (omega arith) c.next_power_of_two.ensures.power (omega arith) (omega arith))

use Rattle.std.proofs.Common.{arith}
use Rattle.std.proofs.lemmas.Grind.{common_steps}
use Rattle.ir_reader.proofs.Ends.{blocks_go_on}
use Rattle.ir_reader.proofs.functions.blocks.Goals as goal

pub loop-blocks-preserved : goal.loop-blocks-preserved
loop-blocks-preserved c = record {
  spelled = grind (arith, common_steps);
  passed = λ st. grind (arith, common_steps, blocks_go_on);
  limit = grind (arith, common_steps);
  instructions = grind (arith, common_steps);
}

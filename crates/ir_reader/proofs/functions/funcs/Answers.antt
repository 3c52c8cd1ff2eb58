use Rattle.std.proofs.Common.{arith}
use Rattle.std.proofs.lemmas.Grind.{common_steps}
use Rattle.ir_model.proofs.NoExcess.{counted_none}
use Rattle.ir_reader.proofs.Separated.{each_push}
use Rattle.ir_reader.proofs.functions.funcs.Goals as goal

pub loop-left-preserved : goal.loop-left-preserved
loop-left-preserved c = record {
  spelled = grind (arith, common_steps);
  passed = λ k st. grind (arith, common_steps);
  limit = grind (arith, common_steps, counted_none);
  blocks = grind (arith, common_steps, each_push);
}

use Rattle.std.proofs.Common.{arith}
use Rattle.std.proofs.lemmas.Grind.{common_steps}
use Rattle.ir_reader.proofs.declarations.globals.Goals as goal

pub loop-globals-preserved : goal.loop-globals-preserved
loop-globals-preserved c = record {
  spelled = grind (arith, common_steps);
  passed = λ st. grind (arith, common_steps);
  limit = grind (arith, common_steps);
}

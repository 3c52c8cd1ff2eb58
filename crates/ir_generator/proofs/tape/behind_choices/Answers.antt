use Rattle.ir_generator.proofs.Stepping.{state_one}
use Rattle.ir_generator.proofs.tape.behind_choices.Goals as goal

pub loop-number-preserved : goal.loop-number-preserved
loop-number-preserved c = cc (state_one c.args.seed c.loop-number._number)

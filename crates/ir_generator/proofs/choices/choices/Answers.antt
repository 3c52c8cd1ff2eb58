use Rattle.ir_generator.proofs.Stepping.{state_two, choices_next}
use Rattle.ir_generator.proofs.choices.choices.Goals as goal

pub loop-number-preserved : goal.loop-number-preserved
loop-number-preserved c =
    record {
      draws = cc (state_two c.args.seed c.loop-number._number);
      are = cc (choices_next c.args.seed c.args.size c.loop-number._number, c.in_ok-push.ensures.items);
    }

use Rattle.std.proofs.Common.{◌*◌, ap, length, arith}
use Rattle.ir_generator.proofs.Stepping.{state_behind, taped_next}
use Rattle.ir_generator.proofs.tape.tape.Goals as goal

pub push-requires : goal.push-requires
push-requires c = omega (arith, ap length c.loop-word.invariant.words)

pub loop-word-preserved : goal.loop-word-preserved
loop-word-preserved c =
    record {
      draws = cc (state_behind c.args.seed (2 * c.args.size) c.loop-word._word);
      words = cc (taped_next c.args.seed c.args.size c.loop-word._word, c.in_ok-push.ensures.ok);
    }

use Rattle.std.proofs.Common.{arith}
use Rattle.std.proofs.lemmas.Grind.{common_steps}
use Rattle.image_blocks.proofs.Blocks.{words_more, no_words}
use Rattle.image_blocks.proofs.fill.put_words.Goals as goal

pub loop-number-init : goal.loop-number-init
loop-number-init c = let e = no_words 0 c.args.memory.now in grind (arith, common_steps, e)

pub loop-number-preserved : goal.loop-number-preserved
loop-number-preserved c = let e = words_more c.loop-number.number 0 c.args.memory.now in grind (arith, common_steps, e)

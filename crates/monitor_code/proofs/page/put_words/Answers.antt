use Rattle.monitor_code.proofs.Paged.{one_word}
use Rattle.monitor_code.proofs.page.put_words.Goals as goal

pub loop-word-preserved : goal.loop-word-preserved
loop-word-preserved c =
    one_word c.args.asm.now c.loop-word.asm c.word.new.self c.args.words.now c.loop-word.word-index 0 c.loop-word-test.true c.loop-word.invariant c.in_ok-word.ensures.ok

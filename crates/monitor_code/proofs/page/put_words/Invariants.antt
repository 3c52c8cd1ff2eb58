use Rattle.std.proofs.Common.{take}
use Rattle.monitor_code.specs.Whole.{HasWords}
use Rattle.monitor_code.proofs.page.put_words.Given as goal

abbrev pub invariant-loop-word : goal.invariant-loop-word
invariant-loop-word l = HasWords l.initial.asm l.asm (take l.word-index l.words)

use Rattle.std.proofs.Common.{◌≡◌, ◌++◌}
use Rattle.machine_model.specs.Stack.{words_at}
use Rattle.image_blocks.proofs.fill.put_words.Given as goal

abbrev pub invariant-loop-number : goal.invariant-loop-number
invariant-loop-number l =
    l.words.items ≡ l.initial.words.items ++ words_at l.number 0 l.memory

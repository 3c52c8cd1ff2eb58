use Rattle.std.proofs.lemmas.Result.{on_ok_weaker}
use Rattle.aces_inspection.specs.MemoryLines.{caller_text}
use Rattle.aces_inspection.proofs.Joined.{joined}
use Rattle.aces_inspection.proofs.blocks.put_caller.Goals as goal

pub returns : goal.returns
unfolding caller_text
returns c =
    on_ok_weaker c.put_number-2.result
    (λ e. joined _ _ _ _ _ _ _ _ _ (rw c.block_word.ensures at c.in_ok-put_number.ensures) c.in_ok-put_stack.ensures (rw c.block_word-2.ensures at e)) c.put_number-2.ensures

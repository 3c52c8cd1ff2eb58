use Rattle.std.proofs.Common.{◌∙◌}
use Rattle.monitor_lists.proofs.memfault.finished.Goals as goal

pub returns : goal.returns
returns c =
    c.in_ok-close_handler.ensures
    ∙ c.in_ok-store_word-2.ensures _
    ∙ c.in_ok-load_word-2.ensures _
    ∙ c.in_ok-constant-2.ensures _
    ∙ c.in_ok-store_word.ensures _
    ∙ c.in_ok-alu.ensures _
    ∙ c.in_ok-constant.ensures _
    ∙ c.in_ok-load_word.ensures _

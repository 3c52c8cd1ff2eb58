use Rattle.std.proofs.Common.{◌∙◌}
use Rattle.monitor_lists.proofs.svc.save.Goals as goal

pub returns : goal.returns
returns c = λ rest.
    c.in_ok-store_word-4.ensures rest
    ∙ c.in_ok-load_word-4.ensures _
    ∙ c.in_ok-store_word-3.ensures _
    ∙ c.in_ok-load_word-3.ensures _
    ∙ c.in_ok-store_word-2.ensures _
    ∙ c.in_ok-load_word-2.ensures _
    ∙ c.in_ok-store_word.ensures _
    ∙ c.in_ok-alu-2.ensures _
    ∙ c.in_ok-alu.ensures _
    ∙ c.in_ok-copy.ensures _
    ∙ c.in_ok-constant.ensures _
    ∙ c.in_ok-load_word.ensures _

use Rattle.std.proofs.Common.{◌∙◌}
use Rattle.monitor_lists.proofs.svc.restored.Goals as goal

pub returns : goal.returns
returns c = λ rest.
    c.in_ok-write_psp.ensures rest
    ∙ c.in_ok-store_word-4.ensures _
    ∙ c.in_ok-load_word-5.ensures _
    ∙ c.in_ok-load_word-4.ensures _
    ∙ c.in_ok-store_word-3.ensures _
    ∙ c.in_ok-load_word-3.ensures _
    ∙ c.in_ok-store_word-2.ensures _
    ∙ c.in_ok-load_word-2.ensures _
    ∙ c.in_ok-store_word.ensures _
    ∙ c.in_ok-load_word.ensures _

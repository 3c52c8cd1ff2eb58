use Rattle.std.proofs.Common.{◌∙◌}
use Rattle.monitor_lists.proofs.opening.region.Goals as goal

pub returns : goal.returns
returns c = λ rest.
    c.in_ok-store_word-2.ensures rest
    ∙ c.in_ok-load_word-2.ensures _
    ∙ c.in_ok-store_word.ensures _
    ∙ c.in_ok-load_word.ensures _

use Rattle.std.proofs.Common.{◌∙◌}
use Rattle.monitor_lists.proofs.reset.unit_is_there.Goals as goal

pub returns : goal.returns
returns c = λ rest.
    c.in_ok-must.ensures rest
    ∙ c.in_ok-constant-2.ensures _
    ∙ c.in_ok-load_word.ensures _
    ∙ c.in_ok-constant.ensures _

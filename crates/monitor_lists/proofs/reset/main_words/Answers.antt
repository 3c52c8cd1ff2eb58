use Rattle.std.proofs.Common.{◌∙◌}
use Rattle.monitor_lists.proofs.reset.main_words.Goals as goal

pub returns : goal.returns
returns c = λ rest.
    c.in_ok-constant-2.ensures rest
    ∙ c.in_ok-constant.ensures _

use Rattle.std.proofs.Common.{◌∙◌}
use Rattle.monitor_lists.proofs.reset.traps.Goals as goal

pub returns : goal.returns
returns c = λ rest.
    c.in_ok-store_word.ensures rest
    ∙ c.in_ok-constant-2.ensures _
    ∙ c.in_ok-constant.ensures _

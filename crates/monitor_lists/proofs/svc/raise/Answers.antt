use Rattle.std.proofs.Common.{◌∙◌}
use Rattle.monitor_lists.proofs.svc.raise.Goals as goal

pub returns : goal.returns
returns c = λ rest.
    c.in_ok-store_word.ensures rest
    ∙ c.in_ok-alu.ensures _
    ∙ c.in_ok-constant.ensures _
    ∙ c.in_ok-load_word.ensures _

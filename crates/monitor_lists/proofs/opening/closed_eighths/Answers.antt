use Rattle.std.proofs.Common.{◌∙◌}
use Rattle.monitor_lists.proofs.opening.closed_eighths.Goals as goal

pub returns : goal.returns
returns c = λ rest.
    c.in_ok-alu-4.ensures rest
    ∙ c.in_ok-constant-4.ensures _
    ∙ c.in_ok-alu-3.ensures _
    ∙ c.in_ok-constant-3.ensures _
    ∙ c.in_ok-alu-2.ensures _
    ∙ c.in_ok-constant-2.ensures _
    ∙ c.in_ok-alu.ensures _
    ∙ c.in_ok-constant.ensures _

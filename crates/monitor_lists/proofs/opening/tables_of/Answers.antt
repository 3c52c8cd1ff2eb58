use Rattle.std.proofs.Common.{◌∙◌}
use Rattle.monitor_lists.proofs.opening.tables_of.Goals as goal

pub returns : goal.returns
returns c = λ rest.
    c.in_ok-regions.ensures rest
    ∙ c.in_ok-stack_region.ensures _
    ∙ c.in_ok-region.ensures _
    ∙ c.in_ok-constant.ensures _
    ∙ c.in_ok-record_of.ensures _

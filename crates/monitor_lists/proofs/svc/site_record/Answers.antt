use Rattle.std.proofs.Common.{◌∙◌}
use Rattle.monitor_lists.proofs.svc.site_record.Goals as goal

pub returns : goal.returns
returns c = λ rest.
    c.in_ok-alu-4.ensures rest
    ∙ c.in_ok-constant-3.ensures _
    ∙ c.in_ok-alu-3.ensures _
    ∙ c.in_ok-alu-2.ensures _
    ∙ c.in_ok-alu.ensures _
    ∙ c.in_ok-copy.ensures _
    ∙ c.in_ok-constant-2.ensures _
    ∙ c.in_ok-must.ensures _
    ∙ c.in_ok-constant.ensures _
    ∙ c.in_ok-load.ensures _

use Rattle.std.proofs.Common.{◌∙◌}
use Rattle.monitor_lists.proofs.Begun.{begins}
use Rattle.monitor_lists.proofs.svc.enter.Goals as goal

pub returns : goal.returns
returns c =
    c.in_ok-close_handler.ensures
    ∙ c.in_ok-tables_of.ensures _
    ∙ c.in_ok-entered.ensures _
    ∙ c.in_ok-frame.ensures _
    ∙ c.in_ok-save.ensures _
    ∙ c.in_ok-raise.ensures _
    ∙ c.in_ok-rounded.ensures _
    ∙ c.in_ok-target.ensures _
    ∙ c.in_ok-site.ensures _
    ∙ begins c.new-list.result _ c.new-list.ensures

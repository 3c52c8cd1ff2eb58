use Rattle.std.proofs.Common.{◌∙◌}
use Rattle.monitor_lists.proofs.Begun.{begins}
use Rattle.monitor_lists.proofs.svc.leave.Goals as goal

pub returns : goal.returns
returns c =
    c.in_ok-close_handler.ensures
    ∙ c.in_ok-tables_of.ensures _
    ∙ c.in_ok-restored.ensures _
    ∙ c.in_ok-left.ensures _
    ∙ begins c.new-list.result _ c.new-list.ensures

use Rattle.std.proofs.Common.{◌∙◌}
use Rattle.monitor_lists.proofs.Begun.{begins}
use Rattle.monitor_lists.proofs.svc.handler.Goals as goal

pub returns : goal.returns
returns c =
    c.in_ok-by_number.ensures
    ∙ c.in_ok-svc_number.ensures _
    ∙ c.in_ok-open_handler.ensures _
    ∙ begins c.new-list.result _ c.new-list.ensures

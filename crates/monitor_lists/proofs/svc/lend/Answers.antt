use Rattle.std.proofs.Common.{◌∙◌}
use Rattle.monitor_lists.proofs.Begun.{begins}
use Rattle.monitor_lists.proofs.svc.lend.Goals as goal

pub returns : goal.returns
returns c =
    c.in_ok-close_handler.ensures
    ∙ c.in_ok-lend_entry.ensures _
    ∙ c.in_ok-lend_place.ensures _
    ∙ c.in_ok-lend_number.ensures _
    ∙ begins c.new-list.result _ c.new-list.ensures

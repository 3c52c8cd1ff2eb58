use Rattle.std.proofs.Common.{◌∙◌}
use Rattle.monitor_lists.proofs.Begun.{begins}
use Rattle.monitor_lists.proofs.svc.unlend.Goals as goal

pub returns : goal.returns
returns c =
    c.in_ok-close_handler.ensures
    ∙ c.in_ok-store_word.ensures _
    ∙ c.in_ok-alu.ensures _
    ∙ c.in_ok-constant.ensures _
    ∙ c.in_ok-must_not.ensures _
    ∙ c.in_ok-load_word-2.ensures _
    ∙ c.in_ok-load_word.ensures _
    ∙ begins c.new-list.result _ c.new-list.ensures

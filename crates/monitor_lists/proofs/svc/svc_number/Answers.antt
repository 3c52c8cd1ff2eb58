use Rattle.std.proofs.Common.{◌∙◌}
use Rattle.monitor_lists.proofs.svc.svc_number.Goals as goal

pub returns : goal.returns
returns c = λ rest.
    c.in_ok-load.ensures rest
    ∙ c.in_ok-alu.ensures _
    ∙ c.in_ok-constant.ensures _
    ∙ c.in_ok-load_word.ensures _

use Rattle.std.proofs.Common.{◌∙◌}
use Rattle.monitor_lists.proofs.memfault.fault_asked.Goals as goal

pub returns : goal.returns
returns c = λ rest.
    c.in_ok-load.ensures rest
    ∙ c.in_ok-load_word-2.ensures _
    ∙ c.in_ok-must.ensures _
    ∙ c.in_ok-alu.ensures _
    ∙ c.in_ok-constant-2.ensures _
    ∙ c.in_ok-load_word.ensures _
    ∙ c.in_ok-constant.ensures _

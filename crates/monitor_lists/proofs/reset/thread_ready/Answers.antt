use Rattle.std.proofs.Common.{◌∙◌}
use Rattle.monitor_lists.proofs.reset.thread_ready.Goals as goal

pub returns : goal.returns
returns c = λ rest.
    c.in_ok-constant-4.ensures rest
    ∙ c.in_ok-constant-3.ensures _
    ∙ c.in_ok-write_psp.ensures _
    ∙ c.in_ok-set_control.ensures _
    ∙ c.in_ok-store_word.ensures _
    ∙ c.in_ok-constant-2.ensures _
    ∙ c.in_ok-constant.ensures _

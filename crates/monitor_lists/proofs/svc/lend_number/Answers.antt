use Rattle.std.proofs.Common.{◌∙◌}
use Rattle.monitor_lists.proofs.svc.lend_number.Goals as goal

pub returns : goal.returns
returns c = λ rest.
    c.in_ok-must-2.ensures rest
    ∙ c.in_ok-constant-4.ensures _
    ∙ c.in_ok-alu.ensures _
    ∙ c.in_ok-constant-3.ensures _
    ∙ c.in_ok-must.ensures _
    ∙ c.in_ok-constant-2.ensures _
    ∙ c.in_ok-must_not.ensures _
    ∙ c.in_ok-constant.ensures _
    ∙ c.in_ok-load_word-3.ensures _
    ∙ c.in_ok-load_word-2.ensures _
    ∙ c.in_ok-load_word.ensures _

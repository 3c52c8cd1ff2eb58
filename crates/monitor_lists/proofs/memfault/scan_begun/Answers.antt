use Rattle.std.proofs.Common.{◌∙◌}
use Rattle.monitor_lists.proofs.memfault.scan_begun.Goals as goal

pub returns : goal.returns
returns c = λ rest.
    c.in_ok-constant-2.ensures rest
    ∙ c.in_ok-constant.ensures _
    ∙ c.in_ok-load_word-4.ensures _
    ∙ c.in_ok-load_word-3.ensures _
    ∙ c.in_ok-copy-2.ensures _
    ∙ c.in_ok-load_word-2.ensures _
    ∙ c.in_ok-record_of.ensures _
    ∙ c.in_ok-load_word.ensures _
    ∙ c.in_ok-copy.ensures _

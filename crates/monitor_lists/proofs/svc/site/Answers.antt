use Rattle.std.proofs.Common.{◌∙◌}
use Rattle.monitor_lists.proofs.svc.site.Goals as goal

pub returns : goal.returns
returns c = λ rest.
    c.in_ok-load_word-3.ensures rest
    ∙ c.in_ok-load_word-2.ensures _
    ∙ c.in_ok-must.ensures _
    ∙ c.in_ok-load_word.ensures _
    ∙ c.in_ok-site_record.ensures _

use Rattle.std.proofs.Common.{◌∙◌}
use Rattle.monitor_lists.proofs.Begun.{begins}
use Rattle.monitor_lists.proofs.reset.start_up.Goals as goal

pub returns : goal.returns
returns c =
    c.in_ok-to_main.ensures
    ∙ c.in_ok-thread_ready.ensures _
    ∙ c.in_ok-tables_of.ensures _
    ∙ c.in_ok-first_regions.ensures _
    ∙ c.in_ok-traps.ensures _
    ∙ c.in_ok-first_block.ensures _
    ∙ c.in_ok-copied.ensures _
    ∙ c.in_ok-unit_is_there.ensures _
    ∙ c.in_ok-main_words.ensures _
    ∙ begins c.new-list.result _ c.new-list.ensures

use Rattle.std.proofs.Common.{◌∙◌}
use Rattle.monitor_steps.specs.Steps.{End}
use Rattle.monitor_lists.proofs.Begun.{begins}
use Rattle.monitor_lists.proofs.reset.word_turn.Goals as goal

pub returns : goal.returns
returns c =
    c.in_ok-alu-2.ensures End
    ∙ c.in_ok-alu.ensures _
    ∙ c.in_ok-constant.ensures _
    ∙ c.in_ok-store_word.ensures _
    ∙ c.in_ok-load_word.ensures _
    ∙ begins c.new-list.result _ c.new-list.ensures

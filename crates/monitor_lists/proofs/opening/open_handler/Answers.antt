use Rattle.std.proofs.Common.{◌∙◌}
use Rattle.monitor_lists.proofs.opening.open_handler.Goals as goal

pub returns : goal.returns
returns c = λ rest.
    c.in_ok-status_test.ensures rest
    ∙ c.in_ok-stack_tests.ensures _
    ∙ c.in_ok-set_control.ensures _

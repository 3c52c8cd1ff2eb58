use Rattle.std.proofs.Common.{◌∙◌}
use Rattle.monitor_steps.specs.Steps.{End}
use Rattle.monitor_lists.proofs.opening.close_handler.Goals as goal

pub returns : goal.returns
returns c =
    c.in_ok-exception_return.ensures End
    ∙ c.in_ok-set_control.ensures _

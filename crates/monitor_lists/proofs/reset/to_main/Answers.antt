use Rattle.std.proofs.Common.{◌∙◌}
use Rattle.monitor_steps.specs.Steps.{End}
use Rattle.monitor_lists.proofs.reset.to_main.Goals as goal

pub returns : goal.returns
returns c =
    c.in_ok-go.ensures End
    ∙ c.in_ok-write_control.ensures _

use Rattle.monitor_confined.proofs.SvcLaw.{calls_are_handled}
use Rattle.monitor_confined.proofs.handlers.calls_are_handled.Goals as goal

pub returns : goal.returns
returns c = calls_are_handled (record { pushed = c.frames.ensures.pushed; in_ram = c.frames.ensures.in_ram })

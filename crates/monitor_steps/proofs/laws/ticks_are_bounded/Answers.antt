use Rattle.monitor_steps.proofs.Ticks.{ticks_are_bounded}
use Rattle.monitor_steps.proofs.laws.ticks_are_bounded.Goals as goal

pub returns : goal.returns
returns c = λ j i. ticks_are_bounded j i

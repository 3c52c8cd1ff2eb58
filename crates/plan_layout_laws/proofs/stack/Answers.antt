use Rattle.plan_layout_laws.proofs.StackBase.{stack_is_lowest}
use Rattle.plan_layout_laws.proofs.stack.Goals as goal

pub returns : goal.returns
returns c = stack_is_lowest

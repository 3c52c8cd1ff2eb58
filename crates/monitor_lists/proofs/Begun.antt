-- A list begins with what is put into it when it is new.
use Rattle.std.proofs.Common.{◌≡◌, [], ap}
use Rattle.monitor_steps.specs.Steps.{PrivilegedSteps}
use Rattle.monitor_steps.specs.Lists.{all_before}
use Rattle.monitor_lists.specs.declared.list.StepList.{StepList}

pub begins : (l : StepList) (rest : PrivilegedSteps) → l.steps.items ≡ [] → all_before l.steps.items rest ≡ rest
begins l rest e = ap (λ x. all_before x rest) e

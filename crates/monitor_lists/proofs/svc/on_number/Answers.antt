use Rattle.std.proofs.Common.{◌∙◌, ap}
use Rattle.monitor_steps.specs.declared.steps.PrivilegedCond.TheVariants.{Eq}
use Rattle.monitor_steps.specs.Steps.{End, Test}
use Rattle.monitor_steps.specs.Lists.{steps_of, all_before}
use Rattle.monitor_lists.proofs.Begun.{begins}
use Rattle.monitor_lists.proofs.svc.on_number.Goals as goal

pub returns : goal.returns
returns c = λ rest.
    c.in_ok-test.ensures rest
    ∙ ap (λ x. all_before c.constant.new.self.steps.items (Test Eq 5 6 (steps_of c.args.chosen.steps.items) x rest)) (begins c.other-rest.result End c.other-rest.ensures)
    ∙ c.in_ok-constant.ensures _

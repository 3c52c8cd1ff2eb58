use Rattle.std.proofs.Common.{◌∙◌, ap₂}
use Rattle.monitor_steps.specs.declared.steps.PrivilegedCond.TheVariants.{Eq}
use Rattle.monitor_steps.specs.Steps.{End, Test}
use Rattle.monitor_steps.specs.Lists.{all_before}
use Rattle.monitor_lists.proofs.Begun.{begins}
use Rattle.monitor_lists.proofs.memfault.has_bit.Goals as goal

pub returns : goal.returns
returns c =
    let found = c.in_ok-constant.ensures End ∙ begins c.new-found.result _ c.new-found.ensures in
    let none = begins c.new.result End c.new.ensures in
    c.in_ok-test.ensures End
    ∙ ap₂ (λ x y. all_before c.alu-2.new.self.steps.items (Test Eq 1 0 x y End)) found none
    ∙ c.in_ok-alu-2.ensures _
    ∙ c.in_ok-constant-2.ensures _
    ∙ c.in_ok-alu.ensures _
    ∙ c.in_ok-copy.ensures _
    ∙ c.in_ok-load_word.ensures _
    ∙ begins c.new-list.result _ c.new-list.ensures

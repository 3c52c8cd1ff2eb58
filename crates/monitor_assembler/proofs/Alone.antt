-- What a step alone is as a list, for each variant.
use Rattle.std.proofs.Common.{◌≡◌, ℕ, Vec, Global, ap, ◌∙◌}
use Rattle.monitor_steps.specs.declared.steps.PrivilegedCond.{PrivilegedCond}
use Rattle.monitor_steps.specs.declared.steps.PrivilegedStep.{PrivilegedStep}
use Rattle.monitor_steps.specs.declared.steps.PrivilegedStep.TheViews.{Test, Repeat}
use Rattle.monitor_steps.specs.Steps as list
use Rattle.monitor_steps.specs.Steps.{End}
use Rattle.monitor_steps.specs.Lists.{before, steps_of}
use Rattle.monitor_steps.proofs.Views.{before-Test, before-Repeat}

pub alone-Test : (s : PrivilegedStep) (cond : PrivilegedCond) (a b : ℕ) (yes_steps no_steps : Vec PrivilegedStep Global) → s ≡ Test cond a b yes_steps no_steps → before s End ≡ list.Test cond a b (steps_of yes_steps.items) (steps_of no_steps.items) End
alone-Test s cond a b yes_steps no_steps e = ap (λ x. before x End) e ∙ before-Test cond a b yes_steps no_steps End

pub alone-Repeat : (s : PrivilegedStep) (left most : ℕ) (body : Vec PrivilegedStep Global) → s ≡ Repeat left most body → before s End ≡ list.Repeat left most (steps_of body.items) End
alone-Repeat s left most body e = ap (λ x. before x End) e ∙ before-Repeat left most body End

use Rattle.std.proofs.Common.{◌∙◌, ap}
use Rattle.monitor_steps.specs.Steps.{PrivilegedSteps, End, Halt}
use Rattle.monitor_steps.specs.Lists.{all_before}
use Rattle.monitor_program.specs.Constants.{Constants}
use Rattle.monitor_model.specs.Halts.{halt_number}
use Rattle.monitor_program.specs.Svc.{enter, leave, lend, on_number}
use Rattle.monitor_lists.specs.Made.{constants_of}
use Rattle.monitor_lists.proofs.svc.by_number.Goals as goal

-- what stands behind each list
abbrev behind_enter : Constants → PrivilegedSteps
behind_enter n = on_number 1 (leave n) (Halt halt_number End)

abbrev behind_lend : Constants → PrivilegedSteps
behind_lend n = on_number 0 (enter n) (behind_enter n)

abbrev behind_unlend : Constants → PrivilegedSteps
behind_unlend n = on_number 2 (lend n) (behind_lend n)

pub returns : goal.returns
returns c =
    c.in_ok-halt.ensures End
    ∙ c.in_ok-on_number-4.ensures _
    ∙ ap (λ s. all_before c.on_number-3.new.list.steps.items (on_number 1 s (Halt halt_number End))) c.in_ok-leave.ensures
    ∙ c.in_ok-on_number-3.ensures _
    ∙ ap (λ s. all_before c.on_number-2.new.list.steps.items (on_number 0 s (behind_enter (constants_of c.args.c.now)))) c.in_ok-enter.ensures
    ∙ c.in_ok-on_number-2.ensures _
    ∙ ap (λ s. all_before c.on_number.new.list.steps.items (on_number 2 s (behind_lend (constants_of c.args.c.now)))) c.in_ok-lend.ensures
    ∙ c.in_ok-on_number.ensures _
    ∙ ap (λ s. all_before c.args.list.now.steps.items (on_number 3 s (behind_unlend (constants_of c.args.c.now)))) c.in_ok-unlend.ensures

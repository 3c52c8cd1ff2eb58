use Rattle.std.proofs.Common.{◌≡◌, ◌&&◌, not, nat_eq, filter}
use Rattle.plan_model.specs.Lists.{numbers_below, has}
use Rattle.plan_model.specs.Needs.{need_of}
use Rattle.plan_policies.proofs.callers.callers.Given as goal

abbrev pub invariant-loop-caller : goal.invariant-loop-caller
invariant-loop-caller l = l.callers.items ≡ filter (λ h. not (nat_eq h l.func) && has (need_of l.needs h).callees l.func) (numbers_below l.caller)

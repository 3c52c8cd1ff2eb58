use Rattle.std.proofs.Common.{sym, ◌∙◌}
use Rattle.plan_model.specs.CompileLimits.{first_passed}
use Rattle.plan.proofs.Refusing.{none_told}
use Rattle.plan.proofs.planner.planned_firmware.Goals as goal

pub planned_within_limits-requires-clause-limits : goal.planned_within_limits-requires-clause-limits
planned_within_limits-requires-clause-limits c = none_told (first_passed c.args.needs.now c.args.groups) (sym c.in_default.is ∙ c.passed_limit.ensures)

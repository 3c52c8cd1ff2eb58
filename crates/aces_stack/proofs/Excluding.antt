-- A firmware within the limits is not refused for a limit.
use Rattle.std.proofs.Common.{◌≡◌, Some, option_map, sym, ap, subst, ◌∙◌}
use Rattle.std.proofs.lemmas.Option.{none-some}
use Rattle.plan_model.specs.declared.needs.Needs.{Needs}
use Rattle.plan_model.specs.CompileLimits.{first_passed}
use Rattle.plan_limits.specs.Told.{in_32_bits}
use Rattle.plan_compartments.specs.Divisions.{division}
use Rattle.plan_compartments.specs.Laws.{NeedsAreOne}
use Rattle.aces_stack.specs.Laws.{LimitsExclude}

pub limits_exclude : NeedsAreOne → LimitsExclude
limits_exclude one policy w b which count is refused =
    let same : refused.needs ≡ is.needs = one w b.closed refused.needs is.needs refused.are_needs is.are_needs in
    let passed : option_map in_32_bits (first_passed is.needs (division policy w is.needs)) ≡ Some (which, count) =
    subst (λ (n : Needs). option_map in_32_bits (first_passed n (division policy w n)) ≡ Some (which, count)) same refused.refused in
    none-some (which, count) (sym (ap (option_map in_32_bits) is.limits) ∙ passed)

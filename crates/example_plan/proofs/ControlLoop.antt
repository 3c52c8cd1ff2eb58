-- The control loop's facts, compartments and crossing sites.
use Rattle.std.proofs.Common.{refl}
use Rattle.plan_model.specs.Policies.{optimized_groups, peripheral_groups}
use Rattle.plan_model.specs.Compartments.{compartments}
use Rattle.plan_model.specs.Crossing.{site_number}
use Rattle.plan_model.specs.CompileLimits.{first_passed}
use Rattle.example_plan.specs.ControlLoop.{ComputesPolicies}
use Rattle.example_plan.specs.Limits.{ComputesLimits}

pub computes_policies : ComputesPolicies
unfolding optimized_groups peripheral_groups compartments site_number
computes_policies = record {
  known = refl;
  by_file = refl;
  optimized = refl;
  by_periph = refl;
  by_number = refl;
  without_gaps = refl;
  all_cross = refl;
  three_cross = refl;
  two_sets_cross = refl;
  of_control = refl;
  third = refl;
  no_site = refl;
}

pub computes_limits : ComputesLimits
unfolding first_passed
computes_limits = record {
  compartments = refl;
  lent = refl;
  nothing_lent = refl;
  targets = refl;
  none = refl;
}

-- The compartments of a firmware by a policy.
use Rattle.std.specs.Prelude.{ℕ, List}
use Rattle.plan_model.specs.declared.policy.Policy.{Policy}
use Rattle.plan_model.specs.declared.policy.Policy.TheVariants.{Filename, Optimized, Peripheral}
use Rattle.ir_model.specs.Plain.{PlainFirmware}
use Rattle.plan_model.specs.declared.groups.FuncFacts.{FuncFacts}
use Rattle.plan_model.specs.declared.groups.Groups.{Groups}
use Rattle.plan_model.specs.declared.needs.Needs.{Needs}
use Rattle.plan_model.specs.Compartments.{compartments}
use Rattle.plan_model.specs.Facts.{facts}
use Rattle.plan_model.specs.Policies.{filename_groups, optimized_groups, peripheral_groups}

-- the group of each function by a policy
abbrev pub groups_by : Policy → List FuncFacts → List ℕ
groups_by Filename fs = filename_groups fs
groups_by Optimized fs = optimized_groups fs
groups_by Peripheral fs = peripheral_groups fs

-- the compartments of a firmware by a policy, where its functions have these needs
abbrev pub division : Policy → PlainFirmware → Needs → Groups
division policy w n = compartments (groups_by policy (facts w n))

-- The compartments of a policy: the groups that have a function, numbered in rising order.
use Rattle.std.specs.Prelude.{◌≡◌, ℕ, List, length, map, count_by, nat_eq, nat_lt}
use Rattle.ir_model.specs.Resolved.{Program}
use Rattle.plan_model.specs.declared.groups.Groups.{Groups}
use Rattle.plan_model.specs.Lists.{distinct}

-- the groups that have a function; `groups` has the group of each function
abbrev pub used_groups : (groups : List ℕ) → List ℕ
used_groups groups = distinct nat_eq groups

-- the number of a group's compartment: how many used groups are below it
abbrev pub compartment_number : (groups : List ℕ) → (group : ℕ) → ℕ
compartment_number groups g = count_by (λ h. nat_lt h g) (used_groups groups)

-- the compartment of each function
unfoldable pub compartments : (groups : List ℕ) → Groups
compartments groups = record { of = map (compartment_number groups) groups; count = length (used_groups groups) }

-- compartments of the functions of a program, by whatever policy
pub record AreCompartments (p : Program) (g : Groups) : Type 0 where
  pub groups : List ℕ
  pub each : length groups ≡ length p.funcs
  pub are : g ≡ compartments groups

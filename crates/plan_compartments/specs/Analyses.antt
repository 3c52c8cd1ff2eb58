-- What the functions of a firmware need, and the compartments that a policy makes by that.
use Rattle.std.specs.Prelude.{◌≡◌, ℕ, List, Bool, false}
use Rattle.plan_model.specs.declared.policy.Policy.{Policy}
use Rattle.ir_model.specs.Plain.{PlainFirmware}
use Rattle.ir_model.specs.Resolve.{resolve}
use Rattle.ir_laws.specs.Sets.{ObjectSets}
use Rattle.plan_model.specs.declared.needs.Needs.{Needs}
use Rattle.plan_model.specs.Needs.{AreNeeds}
use Rattle.plan_model.specs.PointsTo.{IsLeast}
use Rattle.plan_compartments.specs.Divisions.{division}

-- the needs by the least sets of objects, for an open or a closed board
pub record AreNeedsOf (w : PlainFirmware) (closed : Bool) (n : Needs) : Type 0 where
  pub sets : ObjectSets
  pub least : IsLeast (resolve w) sets
  pub needs : AreNeeds (resolve w) sets closed n

-- the compartment of each function by a policy, by what the functions need on an open board
pub record AreCompartmentsBy (policy : Policy) (w : PlainFirmware) (compartments : List ℕ) : Type 0 where
  pub needs : Needs
  pub are_needs : AreNeedsOf w false needs
  pub same : compartments ≡ (division policy w needs).of

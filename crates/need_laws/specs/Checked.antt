-- The sets of objects that needs are made of.
use Rattle.std.specs.Prelude.{◌≡◌, true}
use Rattle.ir_model.specs.Resolved.{Program}
use Rattle.ir_model.specs.State.{Object}
use Rattle.ir_model.specs.Checked.{IsChecked}
use Rattle.ir_laws.specs.Sets.{Node, ObjectSets, Closed}
use Rattle.plan_model.specs.PointsTo.{IsLeast}
use Rattle.need_laws.specs.Laws.{IsThere}

-- sets that no step leaves, of objects of the program alone, as the least ones are
pub record AreSets (p : Program) (S : ObjectSets) : Type 0 where
  pub closed : Closed p S
  pub there : (m : Node) (o : Object) → S m o ≡ true → IsThere p o

-- needs may be made by the least sets
abbrev pub LeastSetsServe : Type 0
LeastSetsServe = (p : Program) (S : ObjectSets) → IsChecked p → IsLeast p S → AreSets p S

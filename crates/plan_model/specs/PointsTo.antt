-- The least sets of objects that keep the values of a program.
use Rattle.std.specs.Prelude.{◌≡◌, true}
use Rattle.ir_model.specs.Resolved.{Program}
use Rattle.ir_model.specs.State.{Object}
use Rattle.ir_laws.specs.Sets.{Node, ObjectSets, Closed}

-- closed under the rules, and contained in all sets that are
pub record IsLeast (p : Program) (S : ObjectSets) : Type 0 where
  pub closed : Closed p S
  pub least : (Q : ObjectSets) → Closed p Q → (n : Node) (o : Object) → S n o ≡ true → Q n o ≡ true

-- Beyond the program's claim: only laws, proofs and functions inside the tool cite this file.
-- One of a list has a property.
use Rattle.std.specs.Prelude.{List, Contains}

pub record AnyOf {X : Type 0} (P : X → Type 0) (xs : List X) : Type 0 where
  pub item : X
  pub listed : Contains xs item
  pub holds : P item

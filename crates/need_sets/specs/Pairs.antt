-- Beyond the program's claim: only laws, proofs and functions inside the tool cite this file.
-- Pairs of a node and an object, by their numbers.
use Rattle.std.specs.Prelude.{ℕ, ◌<◌, Bool, false, List, length, get_or, Option, Some, None}
use Rattle.ir_laws.specs.Sets.{ObjectSets}
use Rattle.ir_model.specs.declared.object.ObjId.{ObjId}
use Rattle.ir_model.specs.declared.object.ObjId.TheVariants.{Global}
use Rattle.need_sets.specs.Numbers.{GroupCounts, node_number, object_number}
use Rattle.need_numbers.specs.Rows.{Lists, row, has}

-- how many objects there are, and those of each node
pub record ObjectRows : Type 0 where
  pub objects : ℕ
  pub rows : Lists

pub record IsWithin (objects : ℕ) (rows : Lists) : Type 0 where
  pub each : (n k : ℕ) → k < length (row rows n) → get_or (row rows n) k 0 < objects

-- whether a list has a number; what has no number is in no list
abbrev pub has_number : List ℕ → Option ℕ → Bool
has_number numbers None = false
has_number numbers (Some o) = has o numbers

abbrev pub is_pair : Lists → (node object : Option ℕ) → Bool
is_pair rows None object = false
is_pair rows (Some n) object = has_number (row rows n) object

-- the pairs as the definition's sets: a node has an object where both have numbers and these are a pair
abbrev pub sets_by : GroupCounts → Lists → ObjectSets
sets_by c rows n o = is_pair rows (node_number c n) (object_number c o)

-- the object at a place of a list
abbrev pub object_at : List ObjId → ℕ → ObjId
object_at objects k = get_or objects k (Global 0)

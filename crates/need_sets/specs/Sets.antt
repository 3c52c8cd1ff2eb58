-- Beyond the program's claim: only laws, proofs and functions inside the tool cite this file.
-- Sets of objects as the definition's.
use Rattle.std.specs.Prelude.{◌≡◌, ℕ, ◌<◌, ◌≤◌, Bool, false, ◌&&◌, nat_eq, List, [], map, length, get_or, Option, Some, None}
use Rattle.std.specs.List.{list_any}
use Rattle.std.specs.List.Sorted.{IsStrictlySortedBy}
use Rattle.ir_model.specs.declared.object.ObjId.{ObjId}
use Rattle.ir_model.specs.Objects.{object_by, compare_objects}
use Rattle.ir_model.specs.State.{Object, GlobalObject, PeriphObject, LocalObject, FunctionObject}
use Rattle.ir_laws.specs.Sets.{Node, ObjectSets}
use Rattle.need_sets.specs.Numbers.{GroupCounts, node_number}

abbrev pub same_object : Object → Object → Bool
same_object (GlobalObject g) (GlobalObject h) = nat_eq g h
same_object (PeriphObject g) (PeriphObject h) = nat_eq g h
same_object (LocalObject f l) (LocalObject g m) = nat_eq f g && nat_eq l m
same_object (FunctionObject f) (FunctionObject g) = nat_eq f g
same_object _ _ = false

-- how nodes are numbered, and the objects of each
pub record Sets : Type 0 where
  pub numbers : GroupCounts
  pub rows : List (List ObjId)

abbrev pub AreInOrder : List (List ObjId) → Type 0
AreInOrder rows = (n : ℕ) → IsStrictlySortedBy compare_objects (get_or rows n [])

abbrev pub row_at : List (List ObjId) → Option ℕ → List ObjId
row_at rows None = []
row_at rows (Some n) = get_or rows n []

-- the objects of a node
abbrev pub row_of : Sets → Node → List ObjId
row_of s n = row_at s.rows (node_number s.numbers n)

abbrev pub sets_of : Sets → ObjectSets
sets_of s n o = list_any (λ x. same_object (object_by x) o) (row_of s n)

-- rows of which each is one of some lists, by its number
abbrev pub rows_by : (lists : List (List ObjId)) (numbers : List ℕ) → List (List ObjId)
rows_by lists numbers = map (λ k. get_or lists k []) numbers

-- each number is that of a list, and there is a place for numbers of lists that are known
pub record AreOfLists (lists : List (List ObjId)) (numbers known : List ℕ) : Type 0 where
  pub each : (k : ℕ) → k < length numbers → get_or numbers k 0 < length lists
  pub places : 0 < length known

-- lists to which others may have come at the end
pub record IsLonger (old new : List (List ObjId)) : Type 0 where
  pub count : length old ≤ length new
  pub kept : (k : ℕ) → k < length old → get_or new k [] ≡ get_or old k []

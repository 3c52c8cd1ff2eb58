-- Beyond the program's claim: only laws, proofs and functions inside the tool cite this file.
-- Rules over numbers that ask what a program asks.
use Rattle.std.specs.Prelude.{◌≡◌, ℕ, ◌+◌, ◌⊎◌, Bool, true, false, List, [], ◌++◌, length, get_or, count_by, Some, Contains}
use Rattle.ir_model.specs.Types.{type_of}
use Rattle.need_sets.specs.Numbers.{GroupCounts, node_number, object_number}
use Rattle.need_sets.specs.declared.rules.Pair.{Pair}
use Rattle.need_sets.specs.declared.rules.Edge.{Edge}
use Rattle.need_sets.specs.declared.rules.Trigger.{Trigger}
use Rattle.need_sets.specs.declared.rules.Trigger.TheVariants as trigger
use Rattle.need_sets.specs.declared.rules.Rules.{Rules}
use Rattle.need_sets.specs.Rules.{lists_in}
use Rattle.need_sets.specs.Demands.{Demand, HasObject, PassesOn, LoadsTo, StoresFrom, GivesTo, TakesFrom}

-- one thing that rules say
pub data Item : Type 0 where
  Fact : Pair → Item
  Copy : Edge → Item
  Asks : (node : ℕ) → Trigger → Item

abbrev pub HasItem : Rules → Item → Type 0
HasItem r (Fact x) = Contains r.facts.items x
HasItem r (Copy e) = Contains r.copies.items e
HasItem r (Asks n t) = Contains (get_or (lists_in r.triggers) n []) t

-- a demand, by the numbers of nodes and objects
abbrev pub IsNumbered : GroupCounts → Demand → Item → Type 0
IsNumbered c (HasObject n o) (Fact x) = (node_number c n ≡ Some x.node) × (object_number c o ≡ Some x.object)
IsNumbered c (PassesOn a b) (Copy e) = (node_number c a ≡ Some e.from) × (node_number c b ≡ Some e.to)
IsNumbered c (LoadsTo n to) (Asks i (trigger.Load j)) = (node_number c n ≡ Some i) × (node_number c to ≡ Some j)
IsNumbered c (StoresFrom n from) (Asks i (trigger.Store j)) = (node_number c n ≡ Some i) × (node_number c from ≡ Some j)
IsNumbered c (GivesTo n t from k) (Asks i (trigger.Argument u j m)) = (node_number c n ≡ Some i) × (node_number c from ≡ Some j) × (type_of u.now ≡ t) × (m ≡ k)
IsNumbered c (TakesFrom n t to) (Asks i (trigger.Outcome u j)) = (node_number c n ≡ Some i) × (node_number c to ≡ Some j) × (type_of u.now ≡ t)
IsNumbered c _ _ = ⊥

abbrev pub is_fact : Item → ℕ
is_fact (Fact x) = 1
is_fact _ = 0

-- one thing was put to the rules
pub record IsAdded (old new : Rules) (x : Item) : Type 0 where
  pub added : HasItem new x
  pub kept : (y : Item) → HasItem old y → HasItem new y
  pub cases : (y : Item) → HasItem new y → HasItem old y ⊎ (x ≡ y)
  pub facts : length new.facts.items ≡ length old.facts.items + is_fact x

abbrev pub names_object : Demand → Bool
names_object (HasObject n o) = true
names_object _ = false

pub record IsMet (c : GroupCounts) (r : Rules) (d : Demand) : Type 0 where
  pub item : Item
  pub is : IsNumbered c d item
  pub there : HasItem r item

pub record IsAskedBy (c : GroupCounts) (ds : List Demand) (x : Item) : Type 0 where
  pub demand : Demand
  pub listed : Contains ds demand
  pub is : IsNumbered c demand x

-- rules say what demands ask, and nothing else
pub record Represents (c : GroupCounts) (r : Rules) (ds : List Demand) : Type 0 where
  pub all : (d : Demand) → Contains ds d → IsMet c r d
  pub each : (x : Item) → HasItem r x → IsAskedBy c ds x
  pub facts : length r.facts.items ≡ count_by names_object ds

-- rules say these demands besides what they said
pub record Gathers (c : GroupCounts) (old new : Rules) (ds : List Demand) : Type 0 where
  pub more : (before : List Demand) → Represents c old before → Represents c new (before ++ ds)

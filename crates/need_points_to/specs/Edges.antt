-- Beyond the program's claim: only laws, proofs and functions inside the tool cite this file.
-- The edges along which objects are passed on between nodes, and the number of steps that a search may take.
use Rattle.std.specs.Prelude.{◌≡◌, ℕ, suc, ◌+◌, ◌*◌, ◌≤◌, true, List, length, count_by, Contains}
use Rattle.std.specs.List.{sum_by}
use Rattle.ir_model.specs.Resolved.{Program, register_type}
use Rattle.ir_model.specs.State.{Object, FunctionObject}
use Rattle.ir_model.specs.Signatures.{signature}
use Rattle.ir_laws.specs.Sets.{Node, Register, Content, Outcome, ObjectSets, carries}
use Rattle.need_sets.specs.Sets.{Sets, sets_of, row_of}
use Rattle.need_sets.specs.Demands.{Demand, HasObject, PassesOn, LoadsTo, StoresFrom, GivesTo, TakesFrom, demands_of}
use Rattle.need_sets.specs.Gathered.{names_object}

-- a demand passes the set of one node on to another
abbrev pub PassesBy : Program → ObjectSets → Demand → (a b : Node) → Type 0
PassesBy p S (HasObject n o) a b = ⊥
PassesBy p S (PassesOn from to) a b = (a ≡ from) × (b ≡ to)
PassesBy p S (LoadsTo n to) a b = (o : Object) × (S n o ≡ true) × (a ≡ Content o) × (b ≡ to)
PassesBy p S (StoresFrom n from) a b = (o : Object) × (S n o ≡ true) × (a ≡ from) × (b ≡ Content o)
PassesBy p S (GivesTo n t from k) a b = (g : ℕ) × (S n (FunctionObject g) ≡ true) × (signature p g ≡ t) × (carries (register_type p g k) ≡ true) × (a ≡ from) × (b ≡ Register g k)
PassesBy p S (TakesFrom n t to) a b = (g : ℕ) × (S n (FunctionObject g) ≡ true) × (signature p g ≡ t) × (a ≡ Outcome g) × (b ≡ to)

-- two different nodes, of which the set of the first is passed on to the second
pub record IsEdge (p : Program) (S : ObjectSets) (a b : Node) : Type 0 where
  pub apart : a ≡ b → ⊥
  pub demand : Demand
  pub listed : Contains (demands_of p) demand
  pub passes : PassesBy p S demand a b

-- how many instructions and initial values name an object
abbrev pub named_count : Program → ℕ
named_count p = count_by names_object (demands_of p)

-- three steps for each object that is named, for each edge, and for each object of the node from which an edge leads
pub record IsWithinBound (p : Program) (s : Sets) (count : ℕ) : Type 0 where
  pub bound : (es : List (Node × Node)) → ((a b : Node) → IsEdge p (sets_of s) a b → Contains es (a, b)) → count ≤ 3 * (named_count p + sum_by (λ (e : Node × Node). suc (length (row_of s e.0))) es)

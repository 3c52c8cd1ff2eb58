-- Beyond the program's claim: only laws, proofs and functions inside the tool cite this file.
-- What sets of objects have to obey, over the numbers of nodes and objects.
use Rattle.std.specs.Prelude.{◌≡◌, ℕ, ◌+◌, ◌-◌, ◌<◌, Bool, true, ◌&&◌, List, [], length, get_or, map, Vec, Option, Some, None, nat_le, nat_lt, if◌then◌else◌}
use Rattle.ir_model.specs.Types.{PlainType, type_of, same}
use Rattle.ir_model.specs.Resolved.{Program, register_type}
use Rattle.ir_model.specs.Signatures.{signature}
use Rattle.ir_laws.specs.Sets.{carries, Register, Outcome}
use Rattle.need_numbers.specs.Groups.{place_of, start_of}
use Rattle.need_sets.specs.Numbers.{GroupCounts, node_number}
use Rattle.need_sets.specs.declared.rules.Pair.{Pair}
use Rattle.need_sets.specs.declared.rules.Edge.{Edge}
use Rattle.need_sets.specs.declared.rules.Trigger.{Trigger}
use Rattle.need_sets.specs.declared.rules.Trigger.TheVariants as trigger

-- the function that an object is
abbrev pub callee_of : GroupCounts → (object : ℕ) → Option ℕ
callee_of c o = if nat_le (start_of c.objects (2 + c.funcs)) o then Some (o - start_of c.objects (2 + c.funcs)) else None

-- the node of a parameter of a function that is of a type
abbrev pub parameter_of : Program → GroupCounts → PlainType → (func place : ℕ) → Option ℕ
parameter_of p c t g k = if same (signature p g) t && carries (register_type p g k) then node_number c (Register g k) else None

-- the node of what a function gives that is of a type
abbrev pub outcome_of : Program → GroupCounts → PlainType → (func : ℕ) → Option ℕ
outcome_of p c t g = if nat_lt g (length p.funcs) && same (signature p g) t then node_number c (Outcome g) else None

abbrev pub edge_to : (from : ℕ) → Option ℕ → Option Edge
edge_to a None = None
edge_to a (Some b) = Some (record { from = a; to = b })

abbrev pub edge_from : Option ℕ → (to : ℕ) → Option Edge
edge_from None b = None
edge_from (Some a) b = Some (record { from = a; to = b })

abbrev pub of_callee : Option ℕ → (ℕ → Option ℕ) → Option ℕ
of_callee None h = None
of_callee (Some g) h = h g

-- what is asked for an object
abbrev pub edge_of : Program → GroupCounts → Trigger → (object : ℕ) → Option Edge
edge_of p c (trigger.Load to) o = edge_from (place_of c.nodes c.funcs o) to
edge_of p c (trigger.Store from) o = edge_to from (place_of c.nodes c.funcs o)
edge_of p c (trigger.Argument t from k) o = edge_to from (of_callee (callee_of c o) (λ g. parameter_of p c (type_of t.now) g k))
edge_of p c (trigger.Outcome t to) o = edge_from (of_callee (callee_of c o) (outcome_of p c (type_of t.now))) to

-- for each node and each object, whether the node has the object
abbrev pub Relation : Type 0
Relation = ℕ → ℕ → Bool

abbrev pub Passes : Relation → Edge → Type 0
Passes S e = (o : ℕ) → S e.from o ≡ true → S e.to o ≡ true

abbrev pub OnEdge : Option Edge → (Edge → Type 0) → Type 0
OnEdge None P = Unit {0}
OnEdge (Some e) P = P e

abbrev pub no_pair : Pair
no_pair = record { node = 0; object = 0 }

abbrev pub no_edge : Edge
no_edge = record { from = 0; to = 0 }

-- the lists in vectors
abbrev pub lists_in : {A : Type 0} → Vec (Vec Trigger A) A → List (List Trigger)
lists_in {A = A} v = map (λ (x : Vec Trigger A). x.items) v.items

-- what each object of a pointer asks
pub record Obeys (p : Program) (c : GroupCounts) (fs : List Pair) (es : List Edge) (ts : List (List Trigger)) (S : Relation) : Type 0 where
  pub facts : (k : ℕ) → k < length fs → S (get_or fs k no_pair).node (get_or fs k no_pair).object ≡ true
  pub copies : (k : ℕ) → k < length es → Passes S (get_or es k no_edge)
  pub triggers : (n k o : ℕ) (d : Trigger) → k < length (get_or ts n []) → S n o ≡ true → OnEdge (edge_of p c (get_or (get_or ts n []) k d) o) (Passes S)

-- Beyond the program's claim: only laws, proofs and functions inside the tool cite this file.
-- Pairs that are a solution of a system of constraints, and the number of steps that it may take to find them.
use Rattle.std.specs.Prelude.{◌≡◌, ◌≢◌, ℕ, zero, suc, ◌+◌, ◌*◌, ◌≤◌, ◌⊎◌, Bool, true, [], length, get_or, Some, nat_eq, Contains}
use Rattle.std.specs.List.{IsDistinct}
use Rattle.ir_program.specs.Seen.{program_of}
use Rattle.need_numbers.specs.Rows.{Lists, has, row}
use Rattle.need_sets.specs.declared.rules.Edge.{Edge}
use Rattle.need_sets.specs.declared.rules.Trigger.{Trigger}
use Rattle.need_sets.specs.declared.system.System.{System}
use Rattle.need_sets.specs.Rules.{Relation, edge_of, lists_in, Obeys}

abbrev pub ObeysAll : System → Relation → Type 0
ObeysAll w S = Obeys (program_of w.program.now) w.numbering w.rules.facts.items w.rules.copies.items (lists_in w.rules.triggers) S

-- the object is in the list of the node
abbrev pub is_in : Lists → (n o : ℕ) → Bool
is_in rows n o = has o (row rows n)

-- an edge that a trigger asks for, for an object of its node
pub record IsTriggered (w : System) (rows : Lists) (e : Edge) : Type 0 where
  pub node : ℕ
  pub object : ℕ
  pub by : Trigger
  pub listed : Contains (get_or (lists_in w.rules.triggers) node []) by
  pub has : is_in rows node object ≡ true
  pub asks : edge_of (program_of w.program.now) w.numbering by object ≡ Some e

abbrev pub IsAsked : System → Lists → Edge → Type 0
IsAsked w rows e = Contains w.rules.copies.items e ⊎ IsTriggered w rows e

-- an edge between different nodes that is asked for
pub record IsNeeded (w : System) (rows : Lists) (a b : ℕ) : Type 0 where
  pub apart : a ≢ b
  pub asked : IsAsked w rows (record { from = a; to = b })

-- ---- steps

-- the sum of the first n values of f
abbrev pub total : (ℕ → ℕ) → ℕ → ℕ
total f zero = 0
total f (suc n) = total f n + f n

-- at most `count` steps were taken for pairs and the edges between them
pub record IsBounded (w : System) (rows : Lists) (count : ℕ) : Type 0 where
  pub edges : Lists
  pub once : (a : ℕ) → IsDistinct nat_eq (row edges a)
  pub apart : (a : ℕ) → IsDistinct nat_eq (row rows a)
  pub needed : (a b : ℕ) → is_in edges a b ≡ true → IsNeeded w rows a b
  pub steps : count ≤ length w.rules.facts.items + total (λ a. length (row edges a) * (1 + 3 * length (row rows a))) (length rows)

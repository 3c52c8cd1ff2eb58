-- Beyond the program's claim: only laws, proofs and functions inside the tool cite this file.
-- What holds during a search.
use Rattle.std.specs.Prelude.{◌≡◌, ℕ, zero, suc, ◌+◌, ◌*◌, ◌<◌, ◌≤◌, ◌⊎◌, Bool, true, false, List, [], ◌∷◌, ◌++◌, length, get_or, Option, nat_eq, if◌then◌else◌}
use Rattle.std.specs.List.{IsDistinct}
use Rattle.ir_program.specs.Seen.{program_of}
use Rattle.need_numbers.specs.Rows.{Lists, row, added}
use Rattle.need_sets.specs.declared.rules.Pair.{Pair}
use Rattle.need_sets.specs.declared.rules.Edge.{Edge}
use Rattle.need_sets.specs.declared.rules.Trigger.{Trigger}
use Rattle.need_solving.specs.declared.state.State.{State}
use Rattle.need_sets.specs.declared.system.System.{System}
use Rattle.need_sets.specs.Rules.{Relation, OnEdge, no_pair, edge_of, lists_in}
use Rattle.need_sets.specs.Solutions.{ObeysAll, is_in, IsNeeded, total}

abbrev pub pair_at : List Pair → ℕ → Pair
pair_at l i = get_or l i no_pair

-- a pair is among those that were found
pub record IsLogged (l : List Pair) (n o : ℕ) : Type 0 where
  pub at : ℕ
  pub in_log : at < length l
  pub node : (pair_at l at).node ≡ n
  pub object : (pair_at l at).object ≡ o

abbrev pub one_if : Bool → ℕ
one_if true = 1
one_if false = 0

-- how many of the first pairs are of a node
abbrev pub handled : (node count : ℕ) → List Pair → ℕ
handled a zero l = 0
handled a (suc k) l = handled a k l + one_if (nat_eq (pair_at l k).node a)

-- nodes that are equal need not be passed on
abbrev pub IsFound : Lists → Edge → Type 0
IsFound edges e = (e.from ≡ e.to) ⊎ (is_in edges e.from e.to ≡ true)

-- the pairs are those that were found, and all sets that obey have them; the edges are such that all sets that obey pass
-- them on, and are asked for; and of the first pairs each was passed on along the edges
pub record IsSound (w : System) (rows : Lists) (objects : ℕ) (l : List Pair) (edges : Lists) (next : ℕ) : Type 0 where
  pub count : length edges ≡ length rows
  pub next_in : next ≤ length l
  pub logged : (n o : ℕ) → is_in rows n o ≡ true → IsLogged l n o
  pub node_in : (i : ℕ) → i < length l → (pair_at l i).node < length rows
  pub object_in : (i : ℕ) → i < length l → (pair_at l i).object < objects
  pub kept : (i : ℕ) → i < length l → is_in rows (pair_at l i).node (pair_at l i).object ≡ true
  pub targets : (a b : ℕ) → is_in edges a b ≡ true → b < length rows
  pub below : (Q : Relation) → ObeysAll w Q → (n o : ℕ) → is_in rows n o ≡ true → Q n o ≡ true
  pub justified : (Q : Relation) → ObeysAll w Q → (a b o : ℕ) → is_in edges a b ≡ true → Q a o ≡ true → Q b o ≡ true
  pub once : (a : ℕ) → IsDistinct nat_eq (row edges a)
  pub apart : (a : ℕ) → IsDistinct nat_eq (row rows a)
  pub needed : (a b : ℕ) → is_in edges a b ≡ true → IsNeeded w rows a b
  pub counted : (a : ℕ) → handled a (length l) l ≤ length (row rows a)
  pub flows : (i b : ℕ) → i < next → is_in edges (pair_at l i).node b ≡ true → is_in rows b (pair_at l i).object ≡ true

abbrev pub IsSoundState : System → State → Type 0
IsSoundState w s = IsSound w s.pairs.rows s.pairs.objects s.log s.edges s.next

pub record Grown (old new : State) : Type 0 where
  pub rows : (n o : ℕ) → is_in old.pairs.rows n o ≡ true → is_in new.pairs.rows n o ≡ true
  pub edges : (a b : ℕ) → is_in old.edges a b ≡ true → is_in new.edges a b ≡ true
  pub log_count : length old.log ≤ length new.log
  pub log : (i : ℕ) → i < length old.log → pair_at new.log i ≡ pair_at old.log i
  pub count : length new.pairs.rows ≡ length old.pairs.rows
  pub objects : new.pairs.objects ≡ old.pairs.objects
  pub lengths : (n : ℕ) → length (row old.pairs.rows n) ≤ length (row new.pairs.rows n)

-- one pair was put
pub record IsPut (old new : State) (n o : ℕ) : Type 0 where
  pub rows : new.pairs.rows ≡ added old.pairs.rows n o
  pub objects : new.pairs.objects ≡ old.pairs.objects
  pub log : new.log ≡ (if is_in old.pairs.rows n o then old.log else old.log ++ record { node = n; object = o } ∷ [])
  pub edges : new.edges ≡ old.edges
  pub next : new.next ≡ old.next

-- a node's objects were put to another's
pub record IsCopied (old new : State) (e : Edge) : Type 0 where
  pub grown : Grown old new
  pub edges : new.edges ≡ old.edges
  pub next : new.next ≡ old.next
  pub copied : (o : ℕ) → is_in new.pairs.rows e.from o ≡ true → is_in new.pairs.rows e.to o ≡ true
  pub same : row new.pairs.rows e.from ≡ row old.pairs.rows e.from

abbrev pub asked : System → Trigger → (object : ℕ) → Option Edge
asked w t o = edge_of (program_of w.program.now) w.numbering t o

-- what the triggers of a pair's node ask was found
abbrev pub IsFired : System → (edges : Lists) → Pair → Type 0
IsFired w edges x = (k : ℕ) (d : Trigger) → k < length (get_or (lists_in w.rules.triggers) x.node []) → OnEdge (asked w (get_or (get_or (lists_in w.rules.triggers) x.node []) k d) x.object) (IsFound edges)

-- ---- steps

-- what the edges from a node have cost at most
abbrev pub charge : State → (node : ℕ) → ℕ
charge s a = length (row s.edges a) * (1 + 2 * length (row s.pairs.rows a) + handled a s.next s.log)

unfoldable pub cost : State → ℕ
cost s = total (charge s) (length s.pairs.rows)

-- the steps from one state to another are no more than the cost that came
pub record IsPaid (old new : State) (before now : ℕ) : Type 0 where
  pub paid : now + cost old ≤ before + cost new

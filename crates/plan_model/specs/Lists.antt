-- Lists without repeats, lists in an order, and lists of numbers as sets.
use Rattle.std.specs.Prelude.{ℕ, Bool, true, false, not, List, [], ◌∷◌, ◌++◌, filter, if◌then◌else◌, nat_eq, nat_lt, Contains}
use Rattle.std.specs.declared.cmp.Ordering.{Ordering}
use Rattle.std.specs.List.{range_with_len, list_any}
use Rattle.std.specs.List.Sorted.{IsStrictlySortedBy}
use Rattle.std.specs.Cmp.Lexicographic.{pointwise}

-- the things that have a property, each once, in rising order
pub record ListsExactly {X : Type 0} (cmp : X → X → Ordering) (P : X → Type 0) (xs : List X) : Type 0 where
  pub rising : IsStrictlySortedBy cmp xs
  pub each : (x : X) → Contains xs x → P x
  pub all : (x : X) → P x → Contains xs x

-- the numbers below a bound, in rising order
abbrev pub numbers_below : ℕ → List ℕ
numbers_below n = range_with_len 0 n

-- whether a list has no item
abbrev pub is_empty : {X : Type 0} → List X → Bool
is_empty [] = true
is_empty (x ∷ xs) = false

-- whether a number is one of a list
abbrev pub has : List ℕ → ℕ → Bool
has ns n = list_any (λ m. nat_eq m n) ns

-- whether two lists are of equal numbers in the same order
abbrev pub same_numbers : List ℕ → List ℕ → Bool
same_numbers ns ms = pointwise nat_eq ns ms

-- the numbers of a list that are not in another
abbrev pub without : List ℕ → List ℕ → List ℕ
without ns ms = filter (λ n. not (has ms n)) ns

-- an item in front of the first that does not come before it
abbrev pub placed : {X : Type 0} → (comes_before : X → X → Bool) → X → List X → List X
placed before x [] = x ∷ []
placed before x (y ∷ ys) = if before y x then y ∷ placed before x ys else x ∷ y ∷ ys

-- the items in an order; those of which neither comes before the other stay in the order in which they stand
abbrev pub in_order : {X : Type 0} → (comes_before : X → X → Bool) → List X → List X
in_order before [] = []
in_order before (x ∷ xs) = placed before x (in_order before xs)

-- the numbers of two lists, in rising order
abbrev pub union : List ℕ → List ℕ → List ℕ
union ns ms = in_order nat_lt (ns ++ without ms ns)

-- the items without those that are the same as an earlier one
abbrev pub distinct : {X : Type 0} → (same : X → X → Bool) → List X → List X
distinct same [] = []
distinct same (x ∷ xs) = x ∷ filter (λ y. not (same x y)) (distinct same xs)

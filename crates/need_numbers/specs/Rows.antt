-- Beyond the program's claim: only laws, proofs and functions inside the tool cite this file.
-- Lists of numbers, by their numbers.
use Rattle.std.specs.Prelude.{ℕ, Bool, List, [], ◌∷◌, ◌++◌, get_or, set, nat_eq, if◌then◌else◌}
use Rattle.std.specs.List.{list_any}

abbrev pub Lists : Type 0
Lists = List (List ℕ)

abbrev pub row : Lists → ℕ → List ℕ
row rows n = get_or rows n []

abbrev pub has : ℕ → List ℕ → Bool
has o xs = list_any (nat_eq o) xs

abbrev pub put : List ℕ → (item : ℕ) → List ℕ
put xs o = if has o xs then xs else xs ++ o ∷ []

-- an item at the end of a list that does not have it
abbrev pub added : Lists → (list item : ℕ) → Lists
added rows n o = if has o (row rows n) then rows else set rows n (row rows n ++ o ∷ [])

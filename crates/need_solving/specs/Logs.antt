-- Beyond the program's claim: only laws, proofs and functions inside the tool cite this file.
-- Pairs that are kept as two lists.
use Rattle.std.specs.Prelude.{ℕ, List, [], ◌∷◌}
use Rattle.need_sets.specs.declared.rules.Pair.{Pair}

-- the pairs of a node and an object that stand at the same place
abbrev pub pairs_of : (nodes objects : List ℕ) → List Pair
pairs_of [] objects = []
pairs_of (n ∷ nodes) [] = []
pairs_of (n ∷ nodes) (o ∷ objects) = record { node = n; object = o } ∷ pairs_of nodes objects

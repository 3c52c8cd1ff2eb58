-- The number of a name in a list of names: the place of the first that is equal to it, from 0; one that is not there has the number behind
-- the last.
use Rattle.std.specs.Prelude.{ℕ, zero, suc, List, [], ◌∷◌, Bool, true, false, if◌then◌else◌, bytes_eq}

abbrev pub number_of : List (List ℕ) → List ℕ → ℕ
number_of [] n = zero
number_of (m ∷ ms) n = if bytes_eq m n then zero else suc (number_of ms n)

abbrev pub has : List (List ℕ) → List ℕ → Bool
has [] n = false
has (m ∷ ms) n = if bytes_eq m n then true else has ms n

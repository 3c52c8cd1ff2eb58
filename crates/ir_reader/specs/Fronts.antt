-- Beyond the program's claim: only laws, proofs and functions inside the tool cite this file.
-- A text whose first token was read.
use Rattle.std.specs.Prelude.{ℕ, List, ◌∷◌}
use Rattle.ir_reader.specs.Found.{Found, Placed}

-- what was found where so many bytes were left, before what stands behind it
abbrev pub front : Found → ℕ → List Placed → List Placed
front f left ps = record { found = f; left = left } ∷ ps

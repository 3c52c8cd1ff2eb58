-- Beyond the program's claim: only laws, proofs and functions inside the tool cite this file.
-- How many bytes of a text begin with one of the tokens that its scan finds.
use Rattle.std.specs.Prelude.{ℕ, zero, suc, List, [], ◌∷◌}
use Rattle.ir_reader.specs.Found.{Placed}

-- 0 where there are not so many
abbrev pub left_at : (before : ℕ) → List Placed → ℕ
left_at k [] = 0
left_at zero (p ∷ ps) = p.left
left_at (suc k) (p ∷ ps) = left_at k ps

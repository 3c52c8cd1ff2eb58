-- Beyond the program's claim: only laws, proofs and functions inside the tool cite this file.
-- Rows of names that are lent.
use Rattle.std.specs.Prelude.{ℕ, List, map}
use Rattle.std.specs.Borrow.{Bor}
use Rattle.ir_text_places.specs.Faulty.{Names}

abbrev pub names_in : List (Bor (List ℕ)) → Names
names_in row = map (λ (n : Bor (List ℕ)). n.now) row

-- Beyond the program's claim: only laws, proofs and functions inside the tool cite this file.
-- The least of numbers that may be missing.
use Rattle.std.specs.Prelude.{ℕ, List, Option, Some, None, min}
use Rattle.std.specs.List.{fold}

-- the lesser of two
abbrev pub lesser : Option ℕ → Option ℕ → Option ℕ
lesser None b = b
lesser (Some a) None = Some a
lesser (Some a) (Some b) = Some (min a b)

-- the least of a list
abbrev pub least : List ℕ → Option ℕ
least ns = fold (λ o n. lesser o (Some n)) None ns

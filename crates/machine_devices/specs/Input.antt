-- Recorded input: the words that each window has left, in the order of the windows.
use Rattle.std.specs.Prelude.{ℕ, List, [], ◌∷◌}
use Rattle.std.proofs.Math.ListN.{get_or, set}

-- the words that a window has left
abbrev pub queue : List (List ℕ) → ℕ → List ℕ
queue queues k = get_or queues k []

abbrev pub without_first : List ℕ → List ℕ
without_first [] = []
without_first (x ∷ xs) = xs

-- the queues after a window's first word was taken
abbrev pub taken : List (List ℕ) → ℕ → List (List ℕ)
taken queues k = set queues k (without_first (queue queues k))

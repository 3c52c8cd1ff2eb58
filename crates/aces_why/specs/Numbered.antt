-- What is told of the items of a list in turn.
use Rattle.std.specs.Prelude.{ℕ, suc, List, [], ◌∷◌, ◌++◌}

-- what is told of each item by its number; the first one has the number `first`
abbrev pub numbered : {X : Type 0} → (tell : ℕ → X → List ℕ) → (first : ℕ) → List X → List ℕ
numbered tell k [] = []
numbered tell k (x ∷ xs) = tell k x ++ numbered tell (suc k) xs

-- The least, the greatest and the first of a list, and pairs of its numbers.
use Rattle.std.specs.Prelude.{ℕ, List, [], ◌∷◌, ◌++◌, map, max, position, Option, Some, None, nat_eq, nat_lt}
use Rattle.std.specs.List.{fold, best_of}

-- two numbers of a list, of which the first stands before the second
pub record Pair : Type 0 where
  pub first : ℕ
  pub second : ℕ

-- all pairs of numbers of a list, by their first member, then by their second
abbrev pub pairs : List ℕ → List Pair
pairs [] = []
pairs (n ∷ ns) = map (λ (m : ℕ). record { first = n; second = m }) ns ++ pairs ns

-- the item of least cost, the earliest where several have it
abbrev pub cheapest : {X : Type 0} → (cost : X → ℕ) → List X → Option X
cheapest cost [] = None
cheapest cost (x ∷ xs) = Some (best_of (λ y best. nat_lt (cost y) (cost best)) x xs)

-- the greatest number, or 0 where there is none
abbrev pub greatest : List ℕ → ℕ
greatest ns = fold max 0 ns

-- the place of the first of the greatest, if there is one
abbrev pub first_greatest : List ℕ → Option ℕ
first_greatest ns = position (λ n. nat_eq n (greatest ns)) ns

-- the first number, if there is one
abbrev pub first_of : List ℕ → Option ℕ
first_of [] = None
first_of (n ∷ ns) = Some n

-- the first that is there
abbrev pub first_some : {X : Type 0} → List (Option X) → Option X
first_some [] = None
first_some (None ∷ os) = first_some os
first_some (Some x ∷ os) = Some x

-- Items of lists by their places, with any item beyond the last.
use Rattle.std.proofs.Common.{◌≡◌, ℕ, zero, suc, ◌<◌, List, [], ◌∷◌, length, get_or, refl, arith}

-- what is beyond the last does not matter to an item that is there
pub any_beyond : {X : Type 0} (xs : List X) (i : ℕ) (d e : X) → i < length xs → get_or xs i d ≡ get_or xs i e
any_beyond [] i d e lt = absurd (omega (arith, lt))
any_beyond (x ∷ xs) zero d e lt = refl
any_beyond (x ∷ xs) (suc i) d e lt = any_beyond xs i d e (omega (arith, lt))

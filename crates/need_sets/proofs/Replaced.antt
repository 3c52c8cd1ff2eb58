-- One list of several is replaced by another.
use Rattle.std.proofs.Common.{ℕ, zero, suc, List, [], ◌∷◌, get_or, set}

pub each_replaced : {X : Type 0} (P : ℕ → List X → Type 0) (s : List (List X)) (n : ℕ) (r : List X) → ((i : ℕ) → P i (get_or s i [])) → P n r → (i : ℕ) → P i (get_or (set s n r) i [])
each_replaced P [] n r h e i = h i
each_replaced P (x ∷ s) zero r h e zero = e
each_replaced P (x ∷ s) zero r h e (suc i) = h (suc i)
each_replaced P (x ∷ s) (suc n) r h e zero = h zero
each_replaced P (x ∷ s) (suc n) r h e (suc i) = each_replaced (λ j. P (suc j)) s n r (λ j. h (suc j)) e i

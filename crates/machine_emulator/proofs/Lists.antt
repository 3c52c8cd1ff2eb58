-- The last of a list.
use Rattle.std.proofs.Common.{◌≡◌, ℕ, suc, ◌-◌, List, [], ◌∷◌, length, get_or, refl, arith}
use Rattle.machine_model.specs.Instructions.{last_of}

last_is : (v : ℕ) (vs : List ℕ) → last_of (v ∷ vs) ≡ get_or (v ∷ vs) (length vs) 0
last_is v [] = refl
last_is v (w ∷ vs) = last_is w vs

pub last_of_is : (vs : List ℕ) → last_of vs ≡ get_or vs (length vs - 1) 0
last_of_is [] = refl
last_of_is (v ∷ vs) =
    let e : suc (length vs) - 1 ≡ length vs = omega arith in
    rw e (last_is v vs)

-- How many items of a list have a place or a number.
use Rattle.std.proofs.Common.{◌≡◌, ℕ, Bool, List, [], ◌∷◌, cond, map, count_by, position, is_some, Option, refl, ap, ◌∙◌, arith}
use Rattle.std.specs.List.{list_any}
use Rattle.std.proofs.lemmas.List.Sums.{sum_by-cons}
use Rattle.std.proofs.lemmas.Iterator.Adapters.{position_from-zero}
use Rattle.base_laws.proofs.Lists.{position_there as from_there}

-- what passes has a place
pub has_place : {X : Type 0} (p : X → Bool) (xs : List X) → is_some (position p xs) ≡ list_any p xs
has_place p xs = ap is_some (position_from-zero p xs) ∙ from_there p 0 xs

pub some_counted : (f : ℕ → Option ℕ) (p : ℕ → Bool) → ((k : ℕ) → is_some (f k) ≡ p k) → (ks : List ℕ) → count_by is_some (map f ks) ≡ count_by p ks
some_counted f p h [] = refl
some_counted f p h (k ∷ ks) =
    let a = sum_by-cons (λ (o : Option ℕ). cond (is_some o) 1 0) (f k) (map f ks) in
    let b = sum_by-cons (λ (j : ℕ). cond (p j) 1 0) k ks in
    let c = ap {B = ℕ} (λ t. cond t 1 0) (h k) in
    let r = some_counted f p h ks in
    omega (arith, a, b, c, r)

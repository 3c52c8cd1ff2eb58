-- What a write of one element makes of a list that is seen through a function.
use Rattle.std.proofs.Common.{◌≡◌, ℕ, zero, suc, List, [], ◌∷◌, map, get_or, set, refl, ap, ◌∙◌, Some}
use Rattle.std.specs.List.{slice_get}
use Rattle.std.proofs.lemmas.List.{map-set}
use Rattle.machine_devices.specs.Input.{without_first}
use Rattle.ir_program.specs.declared.value.Value.{Value as Held}
use Rattle.ir_program.specs.Values.{value_of}

-- std's `map-set`, under a name that code can cite
pub written : {A B : Type 0} (f : A → B) (xs : List A) (i : ℕ) (x : A) → map f (set xs i x) ≡ set (map f xs) i (f x)
written f xs i x = map-set f xs i x

pub seen_at : {A B : Type 0} (f : A → B) (xs : List A) (i : ℕ) (d : A) → f (get_or xs i d) ≡ get_or (map f xs) i (f d)
seen_at f [] zero d = refl
seen_at f [] (suc i) d = refl
seen_at f (y ∷ xs) zero d = refl
seen_at f (y ∷ xs) (suc i) d = seen_at f xs i d

pub seen_cell : {A B : Type 0} (f : A → B) (xs : List (List A)) (i k : ℕ) (d : A) → f (get_or (get_or xs i []) k d) ≡ get_or (get_or (map (map f) xs) i []) k (f d)
seen_cell f xs i k d = seen_at f (get_or xs i []) k d ∙ ap (λ ys. get_or ys k (f d)) (seen_at (map f) xs i [])

pub written_cell : {A B : Type 0} (f : A → B) (xs : List (List A)) (i k : ℕ) (x : A)
    → map (map f) (set xs i (set (get_or xs i []) k x)) ≡ set (map (map f) xs) i (set (get_or (map (map f) xs) i []) k (f x))
written_cell f xs i k x =
    map-set (map f) xs i (set (get_or xs i []) k x)
    ∙ ap (λ ys. set (map (map f) xs) i ys) (map-set f (get_or xs i []) k x ∙ ap (λ ys. set ys k (f x)) (seen_at (map f) xs i []))

-- the globals after a store
pub written_global : (old new : List (List Held)) (i k : ℕ) (x : Held) → new ≡ set old i (set (get_or old i []) k x)
    → map (map value_of) new ≡ set (map (map value_of) old) i (set (get_or (map (map value_of) old) i []) k (value_of x))
written_global old new i k x e = ap (map (map value_of)) e ∙ written_cell value_of old i k x

-- a queue whose first word is taken
pub first_of : (xs : List ℕ) (w : ℕ) → Some w ≡ slice_get xs 0 → xs ≡ w ∷ without_first xs
first_of [] w e = cc
first_of (x ∷ xs) w e = cc

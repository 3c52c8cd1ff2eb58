-- Lists that grow along another.
use Rattle.std.proofs.Common.{◌≡◌, ℕ, ◌+◌, ◌<◌, List, [], ◌∷◌, ◌++◌, map, take, get_or, length, sym, ap, ◌∙◌}
use Rattle.std.proofs.lemmas.List.{map-append}
use Rattle.base_laws.proofs.Lists.{take_next}

pub more_mapped : {A B : Type 0} (f : A → B) (old new : List B) (xs : List A) (i : ℕ) (x : A) → i < length xs → x ≡ get_or xs i x → old ≡ map f (take i xs) → new ≡ old ++ f x ∷ [] → new ≡ map f (take (i + 1) xs)
more_mapped f old new xs i x l e h g = g ∙ (ap (λ zs. zs ++ f x ∷ []) h ∙ (sym (map-append f (take i xs) (x ∷ [])) ∙ ap (map f) (sym (take_next xs i x l e))))

-- Lists of the names of bindings that grow along a list.
use Rattle.std.proofs.Common.{◌≡◌, ℕ, ◌+◌, ◌<◌, List, [], ◌∷◌, ◌++◌, map, take, get_or, length, refl, sym, ap, ◌∙◌, append_assoc}
use Rattle.ir_model.specs.declared.firmware.Binding.{Binding}
use Rattle.ir_model.specs.Plain.{binding_of, names_of}
use Rattle.base_laws.proofs.Lists.{take_next}

names_last : (xs : List Binding) (x : Binding) → names_of (map binding_of (xs ++ x ∷ [])) ≡ names_of (map binding_of xs) ++ x.name ∷ []
names_last [] x = refl
names_last (y ∷ xs) x = ap (λ zs. y.name ∷ zs) (names_last xs x)

pub more_names : (first old new : List (List ℕ)) (xs : List Binding) (i : ℕ) (x : Binding) → i < length xs → x ≡ get_or xs i x
    → old ≡ first ++ names_of (map binding_of (take i xs)) → new ≡ old ++ x.name ∷ [] → new ≡ first ++ names_of (map binding_of (take (i + 1) xs))
more_names first old new xs i x l e h g =
    g ∙ (ap (λ zs. zs ++ x.name ∷ []) h ∙ (append_assoc first (names_of (map binding_of (take i xs))) (x.name ∷ [])
    ∙ ap (λ zs. first ++ zs) (sym (names_last (take i xs) x) ∙ ap (λ ys. names_of (map binding_of ys)) (sym (take_next xs i x l e)))))

-- What cells hold before they are written, by their types.
use Rattle.std.proofs.Common.{◌≡◌, ℕ, ◌+◌, ◌<◌, List, [], ◌∷◌, ◌++◌, length, map, take, get_or, refl, ap, sym, ◌∙◌}
use Rattle.std.proofs.lemmas.List.{map-append, take_more}
use Rattle.ir_model.specs.Layout.{CellPlace}
use Rattle.ir_model.specs.Resolved.{Value}
use Rattle.ir_model.specs.Resolve.{filled, zero_of}
use Rattle.ir_model.specs.State.{entered, zero_cells}
use Rattle.ir_cells.specs.Cells.{types_of}

pub filled_entered : (cs : List CellPlace) (vs : List Value) → filled cs vs ≡ entered vs (types_of cs)
filled_entered [] vs = refl
filled_entered (c ∷ cs) [] = ap (λ ws. zero_of c.ty ∷ ws) (filled_entered cs [])
filled_entered (c ∷ cs) (v ∷ vs) = ap (λ ws. v ∷ ws) (filled_entered cs vs)

pub zero_entered : (cs : List CellPlace) → zero_cells cs ≡ entered [] (types_of cs)
zero_entered [] = refl
zero_entered (c ∷ cs) = ap (λ ws. zero_of c.ty ∷ ws) (zero_entered cs)

-- one more element of two lists that are seen alike
pub one_more : {A B C D : Type 0} (f : A → D) (g : C → D) (h : B → C) (now new : List A) (x : A) (ys : List B) (i : ℕ) (y : B) → i < length ys → y ≡ get_or ys i y → new ≡ now ++ x ∷ []
    → map f now ≡ map g (map h (take i ys)) → f x ≡ g (h y) → map f new ≡ map g (map h (take (i + 1) ys))
one_more f g h now new x ys i y l e p q r =
    ap (map f) p
    ∙ (map-append f now (x ∷ [])
    ∙ (ap (λ zs. zs ++ f x ∷ []) q
    ∙ (ap (λ z. map g (map h (take i ys)) ++ z ∷ []) (r ∙ ap (λ z. g (h z)) e)
    ∙ (sym (map-append g (map h (take i ys)) (h (get_or ys i y) ∷ []))
    ∙ (ap (map g) (sym (map-append h (take i ys) (get_or ys i y ∷ [])))
    ∙ ap (λ zs. map g (map h zs)) (sym (take_more ys i y l)))))))

-- Two rows of types as the code holds them: of other lengths, and gone through to the end.
use Rattle.std.proofs.Common.{◌≡◌, ℕ, suc, ◌≤◌, ◌&&◌, Bool, true, false, List, [], ◌∷◌, map, drop, length, refl, sym, ap, ◌∙◌}
use Rattle.std.proofs.lemmas.List.{drop_all}
use Rattle.ir_model.specs.declared.types.Ty as code
use Rattle.ir_model.specs.Types.{type_of, types_from, same, same_row}

abbrev pub same_list : List code.Ty → List code.Ty → Bool
same_list a b = same_row (types_from (map type_of a)) (types_from (map type_of b))

pub other_count : (a b : List code.Ty) → (length a ≡ length b → ⊥) → same_list a b ≡ false
other_count [] [] h = absurd (h refl)
other_count [] (y ∷ b) h = refl
other_count (x ∷ a) [] h = refl
other_count (x ∷ a) (y ∷ b) h = and_false (same (type_of x) (type_of y)) (other_count a b (λ e. h (ap suc e)))
  where
    and_false : {y : Bool} (x : Bool) → y ≡ false → x && y ≡ false
    and_false true e = e
    and_false false e = refl

pub row_end : (a b : List code.Ty) (i : ℕ) → length a ≤ i → length b ≤ i → same_list a b ≡ same_list (drop i a) (drop i b) → true ≡ same_list a b
row_end a b i l m h = sym (h ∙ (ap (λ z. same_list z (drop i b)) (drop_all i a l) ∙ ap (λ z. same_list [] z) (drop_all i b m)))

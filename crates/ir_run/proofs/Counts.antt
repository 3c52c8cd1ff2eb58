-- Lists that are seen alike through two functions.
use Rattle.std.proofs.Common.{◌≡◌, ℕ, zero, suc, ◌<◌, List, [], ◌∷◌, map, length, get_or, ap, sym, ◌∙◌, arith}

seen_alike : {A B C : Type 0} (f : A → C) (g : B → C) (h : A → B) (xs : List A) (i : ℕ) (d : A) → map f xs ≡ map g (map h xs) → i < length xs → f (get_or xs i d) ≡ g (h (get_or xs i d))
seen_alike f g h [] i d e l = absurd (omega arith)
seen_alike f g h (x ∷ xs) zero d e l = cc
seen_alike f g h (x ∷ xs) (suc i) d e l = let rest : map f xs ≡ map g (map h xs) = cc in seen_alike f g h xs i d rest (omega arith)

-- the element at a place is seen alike too
pub alike_at : {A B C : Type 0} (f : A → C) (g : B → C) (h : A → B) (xs : List A) (i : ℕ) (x : A) → map f xs ≡ map g (map h xs) → i < length xs → x ≡ get_or xs i x → f x ≡ g (h x)
alike_at f g h xs i x e l at = ap f at ∙ seen_alike f g h xs i x e l ∙ ap (λ y. g (h y)) (sym at)

-- Lists that a loop joins from what each item gives.
use Rattle.std.proofs.Common.{◌≡◌, ℕ, ◌+◌, ◌<◌, ◌≤◌, List, [], ◌∷◌, ◌++◌, length, map, take, get_or, sym, ap, ◌∙◌}
use Rattle.std.specs.List.{flat_map}
use Rattle.std.proofs.lemmas.List.{map_more, append-nil, append_assoc, take_all}
use Rattle.std.proofs.lemmas.List.Concat.{flat_map-append}

flat_more : {X Y Z : Type 0} (f : X → Y) (g : Y → List Z) (xs : List X) (i : ℕ) (d : X) → i < length xs
    → flat_map g (map f (take (i + 1) xs)) ≡ flat_map g (map f (take i xs)) ++ g (f (get_or xs i d))
flat_more f g xs i d h =
    ap (flat_map g) (map_more f xs i d h) ∙ (flat_map-append g (map f (take i xs)) (f (get_or xs i d) ∷ []) ∙ ap (λ l. flat_map g (map f (take i xs)) ++ l) (append-nil (g (f (get_or xs i d)))))

-- behind `os`, a loop joins what each item gives: one item more, and the end
pub more : {X Y Z : Type 0} (f : X → Y) (g : Y → List Z) (xs : List X) (os zs ys : List Z) (i : ℕ) (x : X) → i < length xs → x ≡ get_or xs i x
    → zs ≡ os ++ flat_map g (map f (take i xs)) → ys ≡ zs ++ g (f x) → ys ≡ os ++ flat_map g (map f (take (i + 1) xs))
more f g xs os zs ys i x h r e q =
    q ∙ (ap (λ l. l ++ g (f x)) e ∙ (append_assoc os (flat_map g (map f (take i xs))) (g (f x))
    ∙ ap (λ l. os ++ l) (ap (λ y. flat_map g (map f (take i xs)) ++ g (f y)) r ∙ sym (flat_more f g xs i x h))))

pub whole : {X Y Z : Type 0} (f : X → Y) (g : Y → List Z) (xs : List X) (os zs : List Z) (i : ℕ) → length xs ≤ i
    → zs ≡ os ++ flat_map g (map f (take i xs)) → zs ≡ os ++ flat_map g (map f xs)
whole f g xs os zs i h e = e ∙ ap (λ l. os ++ flat_map g (map f l)) (take_all i xs h)

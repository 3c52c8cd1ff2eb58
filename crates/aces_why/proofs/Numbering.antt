-- A text that grows by what is told of one item after another.
use Rattle.std.proofs.Common.{◌≡◌, ℕ, suc, ◌+◌, ◌<◌, ◌≤◌, Bool, true, false, ◌||◌, List, [], ◌∷◌, ◌++◌, length, map, take, get_or, sym, ap, ◌∙◌, append_assoc, append-nil, arith}
use Rattle.std.specs.List.{list_any}
use Rattle.std.proofs.lemmas.List.{map_more, map-id, length-take-le, length-map, take_all, get_or-map}
use Rattle.std.proofs.lemmas.List.Folds.{list_any-append, list_any_at}
use Rattle.aces_why.specs.Numbered.{numbered}

numbered_push : {X : Type 0} (g : ℕ → X → List ℕ) (n : ℕ) (xs : List X) (x : X) (k : ℕ) → k ≡ n + length xs → numbered g n (xs ++ x ∷ []) ≡ numbered g n xs ++ g k x
numbered_push g n [] x k e = let q : n ≡ k = omega arith in append-nil (g n x) ∙ ap (λ i. g i x) q
numbered_push g n (y ∷ ys) x k e =
    let q : k ≡ suc n + length ys = omega arith in
    ap (λ l. g n y ++ l) (numbered_push g (suc n) ys x k q) ∙ sym (append_assoc (g n y) (numbered g (suc n) ys) (g k x))

module _ {X Y : Type 0} (h : X → Y) (g : ℕ → Y → List ℕ) (xs : List X) (i : ℕ) (start before : List ℕ) (b : before ≡ start ++ numbered g 0 (map h (take i xs))) where
  -- one item more
  pub put_numbered : (x : X) (after : List ℕ) → i < length xs → x ≡ get_or xs i x → after ≡ before ++ g i (h x) → after ≡ start ++ numbered g 0 (map h (take (i + 1) xs))
  put_numbered x after l e a =
      let le : i ≤ length xs = omega arith in
      let n : length (map h (take i xs)) ≡ i = length-map (take i xs) h ∙ length-take-le i xs le in
      let k : i ≡ 0 + length (map h (take i xs)) = omega arith in
      let m : map h (take (i + 1) xs) ≡ map h (take i xs) ++ h x ∷ [] = map_more h xs i x l ∙ ap (λ y. map h (take i xs) ++ h y ∷ []) (sym e) in
      a ∙ (ap (λ t. t ++ g i (h x)) b ∙ (append_assoc start (numbered g 0 (map h (take i xs))) (g i (h x))
      ∙ ap (λ t. start ++ t) (sym (ap (numbered g 0) m ∙ numbered_push g 0 (map h (take i xs)) (h x) i k))))

  -- all of them
  pub put_whole : length xs ≤ i → before ≡ start ++ numbered g 0 (map h xs)
  put_whole l = b ∙ ap (λ ys. start ++ numbered g 0 (map h ys)) (take_all i xs l)

-- none yet
pub put_none : (start : List ℕ) → start ≡ start ++ []
put_none start = sym (append-nil start)

-- the same of items as they are
module _ {X : Type 0} (g : ℕ → X → List ℕ) (xs : List X) (i : ℕ) (start before : List ℕ) (b : before ≡ start ++ numbered g 0 (take i xs)) where
  as_made : before ≡ start ++ numbered g 0 (map (λ x. x) (take i xs))
  as_made = b ∙ ap (λ ys. start ++ numbered g 0 ys) (sym (map-id (take i xs)))

  pub put_item : (x : X) (after : List ℕ) → i < length xs → x ≡ get_or xs i x → after ≡ before ++ g i x → after ≡ start ++ numbered g 0 (take (i + 1) xs)
  put_item x after l e a = put_numbered (λ y. y) g xs i start before as_made x after l e a ∙ ap (λ ys. start ++ numbered g 0 ys) (map-id (take (i + 1) xs))

  pub put_items : length xs ≤ i → before ≡ start ++ numbered g 0 xs
  put_items l = b ∙ ap (λ ys. start ++ numbered g 0 ys) (take_all i xs l)

-- ---- tests of items in turn

-- one more does not pass
pub none_more : {X Y : Type 0} (h : X → Y) (p : Y → Bool) (xs : List X) (i : ℕ) (x : X) → i < length xs → x ≡ get_or xs i x → p (h x) ≡ false
    → list_any p (map h (take i xs)) ≡ false → list_any p (map h (take (i + 1) xs)) ≡ false
none_more h p xs i x l e f b =
    let m : map h (take (i + 1) xs) ≡ map h (take i xs) ++ h x ∷ [] = map_more h xs i x l ∙ ap (λ y. map h (take i xs) ++ h y ∷ []) (sym e) in
    ap (list_any p) m ∙ none_pushed p (map h (take i xs)) (h x) b f
  where
    none_pushed : {Z : Type 0} (p : Z → Bool) (ys : List Z) (y : Z) → list_any p ys ≡ false → p y ≡ false → list_any p (ys ++ y ∷ []) ≡ false
    none_pushed p ys y b f = list_any-append p ys (y ∷ []) ∙ (ap (λ t. t || list_any p (y ∷ [])) b ∙ ap (λ t. t || false) f)

-- one that passes is enough
pub one_passes : {X Y : Type 0} (h : X → Y) (p : Y → Bool) (xs : List X) (i : ℕ) (x : X) → i < length xs → x ≡ get_or xs i x → p (h x) ≡ true → list_any p (map h xs) ≡ true
one_passes h p xs i x l e t =
    let there : i < length (map h xs) = omega (arith, l, length-map xs h) in
    list_any_at p (map h xs) i (h x) there (ap p (get_or-map h xs i x (h x) l ∙ ap h (sym e)) ∙ t)

-- none passes
pub none_passes : {X Y : Type 0} (h : X → Y) (p : Y → Bool) (xs : List X) (i : ℕ) → length xs ≤ i → list_any p (map h (take i xs)) ≡ false → false ≡ list_any p (map h xs)
none_passes h p xs i l e = sym (ap (λ ys. list_any p (map h ys)) (sym (take_all i xs l)) ∙ e)

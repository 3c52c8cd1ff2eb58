-- A text that grows by one item after another.
use Rattle.std.proofs.Common.{◌≡◌, ℕ, ◌+◌, ◌<◌, Bool, true, false, List, [], ◌∷◌, ◌++◌, cond, filter, map, flat_map, length, take, get_or, ap, ◌∙◌, sym, append_assoc, append-nil}
use Rattle.std.proofs.lemmas.List.{take_more, map-append}
use Rattle.std.proofs.lemmas.List.Elements.{filter-append}
use Rattle.std.proofs.lemmas.Grind.{flat_map-append}

-- ---- one item more of a list

pub item_more : {X : Type 0} (xs : List X) (i : ℕ) (x d : X) → i < length xs → x ≡ get_or xs i d → take (i + 1) xs ≡ take i xs ++ x ∷ []
item_more xs i x d l e = take_more xs i d l ∙ ap (λ y. take i xs ++ y ∷ []) (sym e)

-- ---- of all items

pub put_each : {X : Type 0} (f : X → List ℕ) (xs ys : List X) (x : X) (start before after : List ℕ) → ys ≡ xs ++ x ∷ []
    → before ≡ start ++ flat_map f xs → after ≡ before ++ f x → after ≡ start ++ flat_map f ys
put_each f xs ys x start before after y b a =
    a ∙ (ap (λ t. t ++ f x) b ∙ (append_assoc start (flat_map f xs) (f x)
    ∙ ap (λ t. start ++ t) (sym (ap (flat_map f) y ∙ (flat_map-append f xs (x ∷ []) ∙ ap (λ t. flat_map f xs ++ t) (append-nil (f x)))))))

-- ---- of those that pass a test

passed : {X : Type 0} (test : X → Bool) (xs ys : List X) (x : X) (b : Bool) → ys ≡ xs ++ x ∷ [] → test x ≡ b → filter test ys ≡ filter test xs ++ cond b (x ∷ []) []
passed test xs ys x b y t = ap (filter test) y ∙ (filter-append test xs (x ∷ []) ∙ ap (λ c. filter test xs ++ cond c (x ∷ []) []) t)

pub kept : {X : Type 0} (test : X → Bool) (xs ys : List X) (x : X) → ys ≡ xs ++ x ∷ [] → test x ≡ true → filter test ys ≡ filter test xs ++ x ∷ []
kept test xs ys x y t = passed test xs ys x true y t

pub dropped : {X : Type 0} (test : X → Bool) (xs ys : List X) (x : X) → ys ≡ xs ++ x ∷ [] → test x ≡ false → filter test ys ≡ filter test xs
dropped test xs ys x y t = passed test xs ys x false y t ∙ append-nil (filter test xs)

pub put_kept : {X : Type 0} (f : X → List ℕ) (test : X → Bool) (xs ys : List X) (x : X) (start before after : List ℕ) → ys ≡ xs ++ x ∷ [] → test x ≡ true
    → before ≡ start ++ flat_map f (filter test xs) → after ≡ before ++ f x → after ≡ start ++ flat_map f (filter test ys)
put_kept f test xs ys x start before after y t b a = put_each f (filter test xs) (filter test ys) x start before after (kept test xs ys x y t) b a

pub put_dropped : {X : Type 0} (f : X → List ℕ) (test : X → Bool) (xs ys : List X) (x : X) (start before after : List ℕ) → ys ≡ xs ++ x ∷ [] → test x ≡ false
    → before ≡ start ++ flat_map f (filter test xs) → after ≡ before → after ≡ start ++ flat_map f (filter test ys)
put_dropped f test xs ys x start before after y t b a = a ∙ (b ∙ ap (λ l. start ++ flat_map f l) (sym (dropped test xs ys x y t)))

-- ---- of what is made of those that pass a test

pub made_kept : {X Y : Type 0} (f : Y → List ℕ) (g : X → Y) (test : X → Bool) (xs ys : List X) (x : X) (start before after : List ℕ) → ys ≡ xs ++ x ∷ [] → test x ≡ true
    → before ≡ start ++ flat_map f (map g (filter test xs)) → after ≡ before ++ f (g x) → after ≡ start ++ flat_map f (map g (filter test ys))
made_kept f g test xs ys x start before after y t b a =
    put_each f (map g (filter test xs)) (map g (filter test ys)) (g x) start before after (ap (map g) (kept test xs ys x y t) ∙ map-append g (filter test xs) (x ∷ [])) b a

pub made_dropped : {X Y : Type 0} (f : Y → List ℕ) (g : X → Y) (test : X → Bool) (xs ys : List X) (x : X) (start before after : List ℕ) → ys ≡ xs ++ x ∷ [] → test x ≡ false
    → before ≡ start ++ flat_map f (map g (filter test xs)) → after ≡ before → after ≡ start ++ flat_map f (map g (filter test ys))
made_dropped f g test xs ys x start before after y t b a = a ∙ (b ∙ ap (λ l. start ++ flat_map f (map g l)) (sym (dropped test xs ys x y t)))

-- Two lists side by side: cut, put together, written over, and an item removed.
use Rattle.std.proofs.Common.{◌≡◌, ℕ, zero, suc, ◌<◌, List, [], ◌∷◌, ◌++◌, length, get_or, set, take, drop, ap, refl, arith}
use Rattle.std.specs.List.{AllZip, remove}

module _ {X Y : Type 0} (R : X → Y → Type 0) where
  pub zip_length : (xs : List X) (ys : List Y) → AllZip R xs ys → length xs ≡ length ys
  zip_length [] [] h = refl
  zip_length [] (y ∷ ys) h = absurd h
  zip_length (x ∷ xs) [] h = absurd h
  zip_length (x ∷ xs) (y ∷ ys) h = ap suc (zip_length xs ys h.1)

  pub zip_at : (xs : List X) (ys : List Y) (i : ℕ) (d : X) (e : Y) → AllZip R xs ys → i < length xs → R (get_or xs i d) (get_or ys i e)
  zip_at [] ys i d e h l = absurd (omega arith)
  zip_at (x ∷ xs) [] i d e h l = absurd h
  zip_at (x ∷ xs) (y ∷ ys) zero d e h l = h.0
  zip_at (x ∷ xs) (y ∷ ys) (suc i) d e h l = zip_at xs ys i d e h.1 (omega arith)

  pub zip_append : (xs : List X) (ys : List Y) (us : List X) (vs : List Y) → AllZip R xs ys → AllZip R us vs → AllZip R (xs ++ us) (ys ++ vs)
  zip_append [] [] us vs h k = k
  zip_append [] (y ∷ ys) us vs h k = absurd h
  zip_append (x ∷ xs) [] us vs h k = absurd h
  zip_append (x ∷ xs) (y ∷ ys) us vs h k = (h.0, zip_append xs ys us vs h.1 k)

  zip_take : (n : ℕ) (xs : List X) (ys : List Y) → AllZip R xs ys → AllZip R (take n xs) (take n ys)
  zip_take zero xs ys h = Prim.tt
  zip_take (suc n) [] [] h = Prim.tt
  zip_take (suc n) [] (y ∷ ys) h = absurd h
  zip_take (suc n) (x ∷ xs) [] h = absurd h
  zip_take (suc n) (x ∷ xs) (y ∷ ys) h = (h.0, zip_take n xs ys h.1)

  zip_drop : (n : ℕ) (xs : List X) (ys : List Y) → AllZip R xs ys → AllZip R (drop n xs) (drop n ys)
  zip_drop zero xs ys h = h
  zip_drop (suc n) [] [] h = Prim.tt
  zip_drop (suc n) [] (y ∷ ys) h = absurd h
  zip_drop (suc n) (x ∷ xs) [] h = absurd h
  zip_drop (suc n) (x ∷ xs) (y ∷ ys) h = zip_drop n xs ys h.1

  pub zip_remove : (xs : List X) (ys : List Y) (i : ℕ) → AllZip R xs ys → AllZip R (remove xs i) (remove ys i)
  zip_remove xs ys i h = zip_append (take i xs) (take i ys) (drop (suc i) xs) (drop (suc i) ys) (zip_take i xs ys h) (zip_drop (suc i) xs ys h)

  pub zip_set : (xs : List X) (ys : List Y) (i : ℕ) (x : X) (y : Y) → AllZip R xs ys → R x y → AllZip R (set xs i x) (set ys i y)
  zip_set [] [] i a b h k = Prim.tt
  zip_set [] (y ∷ ys) i a b h k = absurd h
  zip_set (x ∷ xs) [] i a b h k = absurd h
  zip_set (x ∷ xs) (y ∷ ys) zero a b h k = (k, h.1)
  zip_set (x ∷ xs) (y ∷ ys) (suc i) a b h k = (h.0, zip_set xs ys i a b h.1 k)

pub zip_weaker : {X Y : Type 0} (R S : X → Y → Type 0) → ((x : X) (y : Y) → R x y → S x y) → (xs : List X) (ys : List Y) → AllZip R xs ys → AllZip S xs ys
zip_weaker R S w [] [] h = Prim.tt
zip_weaker R S w [] (y ∷ ys) h = absurd h
zip_weaker R S w (x ∷ xs) [] h = absurd h
zip_weaker R S w (x ∷ xs) (y ∷ ys) h = (w x y h.0, zip_weaker R S w xs ys h.1)

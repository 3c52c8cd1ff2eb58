-- Lists: what holds of each element, elements of joined lists, maps, filters and sums.
use Rattle.std.proofs.Common.{◌≡◌, ℕ, zero, suc, ◌+◌, ◌<◌, ◌≤◌, Bool, true, false, ◌&&◌, ◌||◌, cond, List, [], ◌∷◌, ◌++◌, length, map, filter, take, drop, get_or, Some, is_some, refl, ap, arith, sym, sum}
use Rattle.std.specs.List.{list_any, list_all, position_from, AllZip, Contains}
use Rattle.std.proofs.lemmas.Bool.{and_parts}
use Rattle.base_laws.specs.Lists.{Each}
use Rattle.std.proofs.lemmas.List.Sums.{sum_by-cons}

pub each_to : {A : Type 0} (P Q : A → Type 0) (xs : List A) → ((x : A) → P x → Q x) → Each P xs → Each Q xs
each_to P Q [] f h = tt
each_to P Q (x ∷ xs) f h = (f x h.0, each_to P Q xs f h.1)

pub each_of : {A : Type 0} (P : A → Type 0) → ((x : A) → P x) → (xs : List A) → Each P xs
each_of P h [] = tt
each_of P h (x ∷ xs) = (h x, each_of P h xs)

pub each_at : {A : Type 0} (P : A → Type 0) (xs : List A) (d : A) (k : ℕ) → Each P xs → k < length xs → P (get_or xs k d)
each_at P [] d k e lt = absurd (omega arith)
each_at P (x ∷ xs) d zero e lt = e.0
each_at P (x ∷ xs) d (suc k) e lt = each_at P xs d k e.1 (omega arith)

pub each_both : {A : Type 0} (P : A → Type 0) (xs ys : List A) → Each P xs → Each P ys → Each P (xs ++ ys)
each_both P [] ys h g = g
each_both P (x ∷ xs) ys h g = (h.0, each_both P xs ys h.1 g)

-- the front of two lists that are joined
pub each_left : {A : Type 0} (P : A → Type 0) (xs ys : List A) → Each P (xs ++ ys) → Each P xs
each_left P [] ys h = tt
each_left P (x ∷ xs) ys h = (h.0, each_left P xs ys h.1)

-- and the back
pub each_right : {A : Type 0} (P : A → Type 0) (xs ys : List A) → Each P (xs ++ ys) → Each P ys
each_right P [] ys h = h
each_right P (x ∷ xs) ys h = each_right P xs ys h.1

-- a test that each element passes
pub each_from_list_all : {A : Type 0} (p : A → Bool) (xs : List A) → list_all p xs ≡ true → Each (λ x. p x ≡ true) xs
each_from_list_all p [] h = tt
each_from_list_all p (x ∷ xs) h = let r = and_parts (p x) (list_all p xs) h in (r.0, each_from_list_all p xs r.1)

pub each_drop : {A : Type 0} (P : A → Type 0) (n : ℕ) (xs : List A) → Each P xs → Each P (drop n xs)
each_drop P zero xs h = h
each_drop P (suc n) [] h = tt
each_drop P (suc n) (x ∷ xs) h = each_drop P n xs h.1

pub each_take : {A : Type 0} (P : A → Type 0) (n : ℕ) (xs : List A) → Each P xs → Each P (take n xs)
each_take P zero xs h = tt
each_take P (suc n) [] h = tt
each_take P (suc n) (x ∷ xs) h = (h.0, each_take P n xs h.1)

pub zip_pushed : {X Y : Type 0} (R : X → Y → Type 0) (xs : List X) (ys : List Y) (x : X) (y : Y) → AllZip R xs ys → R x y → AllZip R (xs ++ x ∷ []) (ys ++ y ∷ [])
zip_pushed R [] [] x y a r = (r, tt)
zip_pushed R [] (z ∷ zs) x y a r = absurd a
zip_pushed R (z ∷ zs) [] x y a r = absurd a
zip_pushed R (v ∷ vs) (z ∷ zs) x y a r = (a.0, zip_pushed R vs zs x y a.1 r)

pub mapped_twice : {X Y Z : Type 0} (f : Y → Z) (g : X → Y) (xs : List X) → map f (map g xs) ≡ map (λ x. f (g x)) xs
mapped_twice f g [] = refl
mapped_twice f g (x ∷ xs) = ap (λ ys. f (g x) ∷ ys) (mapped_twice f g xs)

pub get_or_mapped : {X Y : Type 0} (g : X → Y) (xs : List X) (k : ℕ) (d : X) → get_or (map g xs) k (g d) ≡ g (get_or xs k d)
get_or_mapped g [] k d = refl
get_or_mapped g (x ∷ xs) zero d = refl
get_or_mapped g (x ∷ xs) (suc k) d = get_or_mapped g xs k d

pub few_kept : {X : Type 0} (q : X → Bool) (xs : List X) → length (filter q xs) ≤ length xs
few_kept q [] = omega arith
few_kept {X} q (x ∷ xs) = by (q x) (few_kept q xs)
  where
    by : (b : Bool) → length (filter q xs) ≤ length xs → length (cond b (x ∷ filter q xs) (filter q xs)) ≤ length (x ∷ xs)
    by true ih = omega arith
    by false ih = omega arith

pub any_kept : {X : Type 0} (p q : X → Bool) (xs : List X) → list_any p (filter q xs) ≡ list_any (λ x. q x && p x) xs
any_kept p q [] = refl
any_kept p q (x ∷ xs) = by (q x) (any_kept p q xs)
  where
    by : (b : Bool) → list_any p (filter q xs) ≡ list_any (λ x. q x && p x) xs → list_any p (cond b (x ∷ filter q xs) (filter q xs)) ≡ (b && p x || list_any (λ x. q x && p x) xs)
    by true ih = ap (λ c. p x || c) ih
    by false ih = ih

pub position_there : {X : Type 0} (p : X → Bool) (i : ℕ) (xs : List X) → is_some (position_from p i xs) ≡ list_any p xs
position_there p i [] = refl
position_there {X} p i (x ∷ xs) = by (p x) (position_there p (i + 1) xs)
  where
    by : (b : Bool) → is_some (position_from p (i + 1) xs) ≡ list_any p xs → is_some (cond b (Some i) (position_from p (i + 1) xs)) ≡ (b || list_any p xs)
    by true h = refl
    by false h = h

pub only_one : {X : Type 0} (x y : X) → Contains (x ∷ []) y → x ≡ y
only_one x y (zero, l, e) = e
only_one x y (suc k, l, e) = absurd (omega arith)

pub take_next : {A : Type 0} (xs : List A) (i : ℕ) (x : A) → i < length xs → x ≡ get_or xs i x → take (i + 1) xs ≡ take i xs ++ x ∷ []
take_next [] i x l e = absurd (omega arith)
take_next (y ∷ xs) zero x l e = ap (λ z. z ∷ []) (sym e)
take_next (y ∷ xs) (suc i) x l e = let q : suc i + 1 ≡ suc (i + 1) = omega arith in rw q (ap (λ zs. y ∷ zs) (take_next xs i x (omega arith) e))

-- the first number, and the others
pub sum_first : (x : ℕ) (xs : List ℕ) → sum (x ∷ xs) ≡ x + sum xs
sum_first x xs = sum_by-cons (λ (n : ℕ). n) x xs

pub sum_below : (counts : List ℕ) (g i : ℕ) → i < get_or counts g 0 → sum (take g counts) + i < sum counts
sum_below [] g i l = absurd (omega arith)
sum_below (c ∷ cs) zero i l = let e = sum_by-cons (λ x. x) c cs in omega arith
sum_below (c ∷ cs) (suc g) i l = let h = sum_below cs g i l in let e = sum_by-cons (λ x. x) c cs in let f = sum_by-cons (λ x. x) c (take g cs) in omega arith

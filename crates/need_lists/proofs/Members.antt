-- What stands in what a filter leaves and in what a search finds, and lists of which each item goes with one of the other.
use Rattle.std.proofs.Common.{◌≡◌, ◌<◌, ◌≤◌, Bool, true, false, cond, List, [], ◌∷◌, length, Some, None, refl, sym, ap, subst, ◌∙◌, inl, inr, arith, nat_lt}
use Rattle.std.specs.Prelude.{◌⊎◌, filter, Contains}
use Rattle.std.specs.List.{list_any, position, position_or_len, AllZip}
use Rattle.std.proofs.lemmas.Bool.{false≢true}
use Rattle.std.proofs.lemmas.Bool.Decides.{nat_tests}
use Rattle.std.proofs.lemmas.List.Folds.{list_any_at}
use Rattle.std.proofs.lemmas.List.Sums.{fails_before_first}
use Rattle.need_lists.proofs.Parts.{head, tail, cases, in_none}

-- ---- filters

pub filtered : {X : Type 0} (p : X → Bool) (x : X) (xs : List X) → Contains xs x → p x ≡ true → Contains (filter p xs) x
filtered p x [] h e = absurd (in_none x h)
filtered {X} p x (y ∷ ys) h e = by (p y) refl (cases y x ys h) (λ r. filtered p x ys r e)
  where
    by : (b : Bool) → p y ≡ b → (y ≡ x) ⊎ Contains ys x → (Contains ys x → Contains (filter p ys) x) → Contains (cond b (y ∷ filter p ys) (filter p ys)) x
    by true q (inl i) ih = subst (λ (z : X). Contains (z ∷ filter p ys) x) (sym i) (head x (filter p ys))
    by true q (inr i) ih = tail y x (filter p ys) (ih i)
    by false q (inl i) ih = absurd (false≢true (sym q ∙ (ap p i ∙ e)))
    by false q (inr i) ih = ih i

pub from_filter : {X : Type 0} (p : X → Bool) (x : X) (xs : List X) → Contains (filter p xs) x → Contains xs x × (p x ≡ true)
from_filter p x [] h = absurd (in_none x h)
from_filter {X} p x (y ∷ ys) h = by (p y) refl h (λ r. from_filter p x ys r)
  where
    first : p y ≡ true → (y ≡ x) ⊎ Contains (filter p ys) x → (Contains (filter p ys) x → Contains ys x × (p x ≡ true)) → Contains (y ∷ ys) x × (p x ≡ true)
    first q (inl i) ih = (subst (λ (z : X). Contains (z ∷ ys) x) (sym i) (head x ys), ap p (sym i) ∙ q)
    first q (inr i) ih = let r = ih i in (tail y x ys r.0, r.1)

    by : (b : Bool) → p y ≡ b → Contains (cond b (y ∷ filter p ys) (filter p ys)) x → (Contains (filter p ys) x → Contains ys x × (p x ≡ true)) → Contains (y ∷ ys) x × (p x ≡ true)
    by true q i ih = first q (cases y x (filter p ys) i) ih
    by false q i ih = let r = ih i in (tail y x ys r.0, r.1)

-- ---- searches

pub any_in : {X : Type 0} (p : X → Bool) (x : X) (xs : List X) → Contains xs x → p x ≡ true → list_any p xs ≡ true
any_in p x xs h e = list_any_at p xs h.0 x h.1 (ap p h.2 ∙ e)

-- where a search finds nothing, no item passes
pub none_found : {X : Type 0} (p : X → Bool) (x : X) (xs : List X) → position p xs ≡ None → Contains xs x → p x ≡ true → ⊥
none_found {X} p x xs none h e = by (nat_lt (position_or_len p xs) (length xs)) refl none
  where
    past : length xs ≤ position_or_len p xs → ⊥
    past l = let k = h.1 in let before : h.0 < position_or_len p xs = omega arith in false≢true (sym (fails_before_first p xs h.0 x before) ∙ (ap p h.2 ∙ e))

    by : (b : Bool) → nat_lt (position_or_len p xs) (length xs) ≡ b → cond b (Some (position_or_len p xs)) None ≡ None → ⊥
    by true q r = cc
    by false q r = past (grind (arith, nat_tests))

-- ---- lists of which each item goes with one of the other

pub record GoesWith {X Y : Type 0} (R : X → Y → Type 0) (ys : List Y) (x : X) : Type 0 where
  pub other : Y
  pub listed : Contains ys other
  pub related : R x other

pub partner : {X Y : Type 0} (R : X → Y → Type 0) (x : X) (xs : List X) (ys : List Y) → AllZip R xs ys → Contains xs x → GoesWith R ys x
partner R x [] ys a h = absurd (in_none x h)
partner R x (z ∷ zs) [] a h = absurd a
partner {X} {Y} R x (z ∷ zs) (y ∷ ys) a h = by (cases z x zs h) (λ r. partner R x zs ys a.1 r)
  where
    by : (z ≡ x) ⊎ Contains zs x → (Contains zs x → GoesWith R ys x) → GoesWith R (y ∷ ys) x
    by (inl e) ih = record { other = y; listed = head y ys; related = subst (λ (w : X). R w y) e a.0 }
    by (inr r) ih = let t = ih r in record { other = t.other; listed = tail y t.other ys t.listed; related = t.related }

-- and the item of the first list with which one of the second goes
pub record ComesOf {X Y : Type 0} (R : X → Y → Type 0) (y : Y) : Type 0 where
  pub other : X
  pub related : R other y

pub comes_of : {X Y : Type 0} (R : X → Y → Type 0) (y : Y) (xs : List X) (ys : List Y) → AllZip R xs ys → Contains ys y → ComesOf R y
comes_of R y [] [] a h = absurd (in_none y h)
comes_of R y [] (z ∷ zs) a h = absurd a
comes_of R y (x ∷ xs) [] a h = absurd (in_none y h)
comes_of {X} {Y} R y (x ∷ xs) (z ∷ zs) a h = by (cases z y zs h) (λ r. comes_of R y xs zs a.1 r)
  where
    by : (z ≡ y) ⊎ Contains zs y → (Contains zs y → ComesOf R y) → ComesOf R y
    by (inl e) ih = record { other = x; related = subst (λ (v : Y). R x v) e a.0 }
    by (inr r) ih = ih r

-- What a stable sort leaves is `in_order` of what it was given.
use Rattle.std.proofs.Common.{◌≡◌, ℕ, zero, suc, ◌≤◌, ◌<◌, Bool, true, false, cond, not, ◌&&◌, ◌||◌, List, [], ◌∷◌, length, get_or, refl, sym, ap, subst, ◌∙◌, arith}
use Rattle.std.specs.Prelude.{filter}
use Rattle.std.specs.Cmp.{IsStrictWeakOrder}
use Rattle.std.specs.List.{list_any}
use Rattle.std.specs.List.Sorted.{IsSortedBy, IsStableBy, ties}
use Rattle.std.proofs.lemmas.List.Sorted.{sorted_far}
use Rattle.plan_model.specs.Lists.{placed, in_order}
use Rattle.base_laws.proofs.Tests.{turned}

-- ---- filters, by the test of the first item

filter_keeps : {X : Type 0} (p : X → Bool) (x : X) (xs : List X) → p x ≡ true → filter p (x ∷ xs) ≡ x ∷ filter p xs
filter_keeps p x xs e = ap (λ b. cond b (x ∷ filter p xs) (filter p xs)) e

filter_drops : {X : Type 0} (p : X → Bool) (x : X) (xs : List X) → p x ≡ false → filter p (x ∷ xs) ≡ filter p xs
filter_drops p x xs e = ap (λ b. cond b (x ∷ filter p xs) (filter p xs)) e

-- the same items behind the first
filter_behind : {X : Type 0} (p : X → Bool) (x : X) (xs ys : List X) → filter p xs ≡ filter p ys → filter p (x ∷ xs) ≡ filter p (x ∷ ys)
filter_behind p x xs ys e = ap (λ l. cond (p x) (x ∷ l) l) e

-- two first items of which one passes at most
filter_swap : {X : Type 0} (p : X → Bool) (x y : X) (xs : List X) → (p x ≡ true → p y ≡ true → ⊥) → filter p (x ∷ y ∷ xs) ≡ filter p (y ∷ x ∷ xs)
filter_swap {X} p x y xs apart = by (p x) (p y) refl refl
  where
    by : (a b : Bool) → p x ≡ a → p y ≡ b → filter p (x ∷ y ∷ xs) ≡ filter p (y ∷ x ∷ xs)
    by true true e f = absurd (apart e f)
    by true false e f = filter_keeps p x (y ∷ xs) e ∙ (ap (λ l. x ∷ l) (filter_drops p y xs f) ∙ sym (filter_drops p y (x ∷ xs) f ∙ filter_keeps p x xs e))
    by false true e f = filter_drops p x (y ∷ xs) e ∙ (filter_keeps p y xs f ∙ sym (filter_keeps p y (x ∷ xs) f ∙ ap (λ l. y ∷ l) (filter_drops p x xs e)))
    by false false e f = filter_drops p x (y ∷ xs) e ∙ (filter_drops p y xs f ∙ sym (filter_drops p y (x ∷ xs) f ∙ filter_drops p x xs e))

-- behind equal first items the filters are equal
filter_rest : {X : Type 0} (p : X → Bool) (x : X) (xs ys : List X) → filter p (x ∷ xs) ≡ filter p (x ∷ ys) → filter p xs ≡ filter p ys
filter_rest {X} p x xs ys h = by (p x) refl
  where
    by : (b : Bool) → p x ≡ b → filter p xs ≡ filter p ys
    by true e = let f = sym (filter_keeps p x xs e) ∙ (h ∙ filter_keeps p x ys e) in cc
    by false e = sym (filter_drops p x xs e) ∙ (h ∙ filter_drops p x ys e)

-- ---- lists that rise

module _ {X : Type 0} (lt : X → X → Bool) where
  -- none of these comes before x
  abbrev AtLeast : X → List X → Type 0
  AtLeast x [] = Unit {0}
  AtLeast x (y ∷ ys) = (lt y x ≡ false) × AtLeast x ys

  -- none comes before one that stands before it
  abbrev Rising : List X → Type 0
  Rising [] = Unit {0}
  Rising (x ∷ xs) = AtLeast x xs × Rising xs

  at_least_of : (x : X) (ys : List X) → ((j : ℕ) (d : X) → j < length ys → lt (get_or ys j d) x ≡ false) → AtLeast x ys
  at_least_of x [] h = tt
  at_least_of x (y ∷ ys) h = (h zero y (omega arith), at_least_of x ys (λ j d l. h (suc j) d (omega arith)))

  rising_of : (ys : List X) → ((i j : ℕ) (d : X) → i ≤ j → j < length ys → lt (get_or ys j d) (get_or ys i d) ≡ false) → Rising ys
  rising_of [] h = tt
  rising_of (y ∷ ys) h = (at_least_of y ys (λ j d l. h zero (suc j) d (omega arith) (omega arith)), rising_of ys (λ i j d a b. h (suc i) (suc j) d (omega arith) (omega arith)))

  -- what a filter gives first is one of the items
  first_is_one : (p : X → Bool) (x y : X) (ys rest : List X) → AtLeast x ys → filter p ys ≡ y ∷ rest → lt y x ≡ false
  first_is_one p x y [] rest a e = cc
  first_is_one p x y (z ∷ zs) rest a e = by (p z) refl (first_is_one p x y zs rest a.1)
    where
      by : (b : Bool) → p z ≡ b → (filter p zs ≡ y ∷ rest → lt y x ≡ false) → lt y x ≡ false
      by true f ih = let g = sym (filter_keeps p z zs f) ∙ e in let same : z ≡ y = cc in subst (λ w. lt w x ≡ false) same a.0
      by false f ih = ih (sym (filter_drops p z zs f) ∙ e)

  tied : (x y : X) → lt x y ≡ false → lt y x ≡ false → ties lt x y ≡ true
  tied x y e f = ap (λ b. not b && not (lt y x)) e ∙ ap (λ b. not b) f

  ties_not_before : (x y : X) → ties lt x y ≡ true → lt x y ≡ false
  ties_not_before x y h = by (lt x y) refl
    where
      by : (b : Bool) → lt x y ≡ b → lt x y ≡ false
      by true e = let f : false ≡ true = sym (ap (λ b. not b && not (lt y x)) e) ∙ h in cc
      by false e = e

  ties_not_behind : (x y : X) → ties lt x y ≡ true → lt y x ≡ false
  ties_not_behind x y h = by (lt y x) refl
    where
      by : (b : Bool) → lt y x ≡ b → lt y x ≡ false
      by true e = let f : false ≡ true = sym (ap (λ b. not b && not (lt y x)) (ties_not_before x y h) ∙ ap (λ b. not false && not b) e) ∙ h in cc
      by false e = e

module _ {X : Type 0} (lt : X → X → Bool) (weak : IsStrictWeakOrder lt) where
  irreflexive : (x : X) → lt x x ≡ false
  irreflexive x = by (lt x x) refl
    where
      by : (b : Bool) → lt x x ≡ b → lt x x ≡ false
      by true e = weak.one_way x x e
      by false e = e

  lower : (x y : X) (zs : List X) → lt y x ≡ false → AtLeast lt y zs → AtLeast lt x zs
  lower x y [] e a = tt
  lower x y (z ∷ zs) e a = (weak.chain z y x a.0 e, lower x y zs e a.1)

  -- ---- an item that is put in its place

  at_least_placed : (x a : X) (ys : List X) → lt a x ≡ false → AtLeast lt x ys → AtLeast lt x (placed lt a ys)
  at_least_placed x a [] e h = (e, tt)
  at_least_placed x a (y ∷ ys) e h = by (lt y a) (at_least_placed x a ys e h.1)
    where
      by : (b : Bool) → AtLeast lt x (placed lt a ys) → AtLeast lt x (cond b (y ∷ placed lt a ys) (a ∷ y ∷ ys))
      by true ih = (h.0, ih)
      by false ih = (e, (h.0, h.1))

  placed_rises : (a : X) (ys : List X) → Rising lt ys → Rising lt (placed lt a ys)
  placed_rises a [] h = (tt, tt)
  placed_rises a (y ∷ ys) h = by (lt y a) refl (placed_rises a ys h.1)
    where
      by : (b : Bool) → lt y a ≡ b → Rising lt (placed lt a ys) → Rising lt (cond b (y ∷ placed lt a ys) (a ∷ y ∷ ys))
      by true e ih = (at_least_placed y a ys (weak.one_way y a e) h.0, ih)
      by false e ih = ((e, lower a y ys e h.0), h)

  placed_keeps : (x a : X) (ys : List X) → filter (ties lt x) (placed lt a ys) ≡ filter (ties lt x) (a ∷ ys)
  placed_keeps x a [] = refl
  placed_keeps x a (y ∷ ys) = by (lt y a) refl (placed_keeps x a ys)
    where
      apart : lt y a ≡ true → ties lt x y ≡ true → ties lt x a ≡ true → ⊥
      apart e f g = let h : lt y a ≡ false = weak.chain y x a (ties_not_behind lt x y f) (ties_not_before lt x a g) in let c : true ≡ false = sym e ∙ h in cc

      by : (b : Bool) → lt y a ≡ b → filter (ties lt x) (placed lt a ys) ≡ filter (ties lt x) (a ∷ ys) → filter (ties lt x) (cond b (y ∷ placed lt a ys) (a ∷ y ∷ ys)) ≡ filter (ties lt x) (a ∷ y ∷ ys)
      by true e ih = filter_behind (ties lt x) y (placed lt a ys) (a ∷ ys) ih ∙ filter_swap (ties lt x) y a ys (apart e)
      by false e ih = refl

  in_order_rises : (xs : List X) → Rising lt (in_order lt xs)
  in_order_rises [] = tt
  in_order_rises (x ∷ xs) = placed_rises x (in_order lt xs) (in_order_rises xs)

  in_order_keeps : (x : X) (xs : List X) → filter (ties lt x) (in_order lt xs) ≡ filter (ties lt x) xs
  in_order_keeps x [] = refl
  in_order_keeps x (y ∷ ys) = placed_keeps x y (in_order lt ys) ∙ filter_behind (ties lt x) y (in_order lt ys) ys (in_order_keeps x ys)

  -- ---- there is one list that rises and keeps the order of ties

  only : (ys zs : List X) → Rising lt ys → Rising lt zs → ((x : X) → filter (ties lt x) ys ≡ filter (ties lt x) zs) → ys ≡ zs
  only [] [] r s h = refl
  only [] (z ∷ zs) r s h = let e = h z ∙ filter_keeps (ties lt z) z zs (tied lt z z (irreflexive z) (irreflexive z)) in cc
  only (y ∷ ys) [] r s h = let e = sym (h y) ∙ filter_keeps (ties lt y) y ys (tied lt y y (irreflexive y) (irreflexive y)) in cc
  only (y ∷ ys) (z ∷ zs) r s h =
      let own_y = filter_keeps (ties lt y) y ys (tied lt y y (irreflexive y) (irreflexive y)) in
      let own_z = filter_keeps (ties lt z) z zs (tied lt z z (irreflexive z) (irreflexive z)) in
      let not_before : lt y z ≡ false = first_is_one lt (ties lt y) z y (z ∷ zs) (filter (ties lt y) ys) (irreflexive z, s.0) (sym (h y) ∙ own_y) in
      let not_behind : lt z y ≡ false = first_is_one lt (ties lt z) y z (y ∷ ys) (filter (ties lt z) zs) (irreflexive y, r.0) (h z ∙ own_z) in
      let firsts = sym own_y ∙ (h y ∙ filter_keeps (ties lt y) z zs (tied lt y z not_before not_behind)) in
      let same : y ≡ z = cc in
      let rest : ys ≡ zs = only ys zs r.1 s.1 (λ x. filter_rest (ties lt x) y ys zs (subst (λ w. filter (ties lt x) (y ∷ ys) ≡ filter (ties lt x) (w ∷ zs)) (sym same) (h x))) in
      cc

  -- a list that is sorted and stable is the list in order
  pub sorted_is_in_order : (xs ys : List X) → IsSortedBy lt ys → IsStableBy lt xs ys → ys ≡ in_order lt xs
  sorted_is_in_order xs ys sorted stable =
      only ys (in_order lt xs) (rising_of lt ys (sorted_far lt weak ys sorted)) (in_order_rises xs) (λ x. stable x ∙ sym (in_order_keeps x xs))

-- ---- an order keeps what some item passes

any_placed : {X : Type 0} (p : X → Bool) (lt : X → X → Bool) (x : X) (ys : List X) → list_any p (placed lt x ys) ≡ (p x || list_any p ys)
any_placed p lt x [] = refl
any_placed p lt x (y ∷ ys) = by (lt y x) (any_placed p lt x ys)
  where
    by : (b : Bool) → list_any p (placed lt x ys) ≡ (p x || list_any p ys) → list_any p (cond b (y ∷ placed lt x ys) (x ∷ y ∷ ys)) ≡ (p x || (p y || list_any p ys))
    by true ih = ap (λ b. p y || b) ih ∙ turned (p y) (p x) (list_any p ys)
    by false ih = refl

pub any_in_order : {X : Type 0} (p : X → Bool) (lt : X → X → Bool) (xs : List X) → list_any p (in_order lt xs) ≡ list_any p xs
any_in_order p lt [] = refl
any_in_order p lt (x ∷ xs) = any_placed p lt x (in_order lt xs) ∙ ap (λ b. p x || b) (any_in_order p lt xs)

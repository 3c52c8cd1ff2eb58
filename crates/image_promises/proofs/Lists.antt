-- What holds of each item of a list, of one of them, and of numbers that pass a test.
use Rattle.std.proofs.Common.{◌≡◌, ℕ, zero, suc, ◌<◌, ◌≤◌, ◌+◌, Bool, true, false, ◌&&◌, ◌||◌, List, [], ◌∷◌, length, map, filter, cond, get_or, nat_eq, refl, ◌∙◌, subst, eq-eqb, eqb-true, arith}
use Rattle.std.specs.List.{list_any, range_with_len}
use Rattle.base_laws.specs.Lists.{Each}
use Rattle.plan_model.specs.Lists.{has, numbers_below}
use Rattle.std.proofs.lemmas.Bool.{and_from as both}
use Rattle.base_laws.proofs.Lists.{any_kept as any_filtered}
use Rattle.plan_model.proofs.Numbers.{one_passes}

-- ---- each item

pub each_passing : {X : Type 0} (P Q : X → Type 0) (test : X → Bool) (xs : List X) → ((x : X) → P x → test x ≡ true → Q x) → Each P xs → Each Q (filter test xs)
each_passing P Q test [] h e = tt
each_passing P Q test (x ∷ xs) h e = by (test x) refl (each_passing P Q test xs h e.1)
  where
    by : (b : Bool) → test x ≡ b → Each Q (filter test xs) → Each Q (cond b (x ∷ filter test xs) (filter test xs))
    by true t ih = (h x e.0 t, ih)
    by false t ih = ih

pub each_map : {X Y : Type 0} (P : Y → Type 0) (f : X → Y) (Q : X → Type 0) (xs : List X) → ((x : X) → Q x → P (f x)) → Each Q xs → Each P (map f xs)
each_map P f Q [] h e = tt
each_map P f Q (x ∷ xs) h e = (h x e.0, each_map P f Q xs h e.1)

pub below_all : (a m k : ℕ) → a + m ≤ k → Each (λ j. j < k) (range_with_len a m)
below_all a zero k l = tt
below_all a (suc m) k l = (omega arith, below_all (a + 1) m k (omega arith))

-- ---- one item

pub any_index : {X : Type 0} (p : X → Bool) (d : X) (xs : List X) → list_any p xs ≡ true → (k : ℕ) × (k < length xs) × (p (get_or xs k d) ≡ true)
any_index p d [] e = absurd (let wrong : false ≡ true = e in cc)
any_index {X} p d (x ∷ xs) e = by (p x) refl e (any_index p d xs)
  where
    by : (b : Bool) → p x ≡ b → (b || list_any p xs) ≡ true → (list_any p xs ≡ true → (k : ℕ) × (k < length xs) × (p (get_or xs k d) ≡ true))
        → (k : ℕ) × (k < suc (length xs)) × (p (get_or (x ∷ xs) k d) ≡ true)
    by true t f ih = (0, omega arith, t)
    by false t f ih = let r = ih f in let l = r.1 in (suc r.0, omega (arith, l), r.2)

-- a number among those below a bound that pass a test
pub passing_among : (test : ℕ → Bool) (x n : ℕ) → x < n → test x ≡ true → has (filter test (numbers_below n)) x ≡ true
passing_among test x n l t = any_filtered (λ m. nat_eq m x) test (numbers_below n) ∙ one_passes (λ m. test m && nat_eq m x) x n l (both (test x) (nat_eq x x) t (eq-eqb x x refl))

pub among_passing : (test : ℕ → Bool) (x a n : ℕ) → has (filter test (range_with_len a n)) x ≡ true → (a ≤ x) × (x < a + n) × (test x ≡ true)
among_passing test x a zero e = absurd (let wrong : false ≡ true = e in cc)
among_passing test x a (suc n) e = by (test a) refl e (among_passing test x (a + 1) n)
  where
    rest : List ℕ
    rest = filter test (range_with_len (a + 1) n)

    later : (a + 1 ≤ x) × (x < a + 1 + n) × (test x ≡ true) → (a ≤ x) × (x < a + suc n) × (test x ≡ true)
    later r = let low = r.0 in let high = r.1 in (omega (arith, low), omega (arith, high), r.2)

    by : (b : Bool) → test a ≡ b → has (cond b (a ∷ rest) rest) x ≡ true → (has rest x ≡ true → (a + 1 ≤ x) × (x < a + 1 + n) × (test x ≡ true)) → (a ≤ x) × (x < a + suc n) × (test x ≡ true)
    by false t f ih = later (ih f)
    by true t f ih = here (nat_eq a x) refl f
      where
        here : (c : Bool) → nat_eq a x ≡ c → (c || has rest x) ≡ true → (a ≤ x) × (x < a + suc n) × (test x ≡ true)
        here true s g = let same = eqb-true a x s in (omega (arith, same), omega (arith, same), subst (λ y. test y ≡ true) same t)
        here false s g = later (ih g)

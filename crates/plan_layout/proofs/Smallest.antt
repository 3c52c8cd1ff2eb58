-- The first of some numbers in rising order is the least of them.
use Rattle.std.proofs.Common.{◌≡◌, ℕ, Bool, true, false, not, cond, ◌||◌, List, [], ◌∷◌, ◌++◌, Option, Some, None, min, nat_lt, nat_eq, refl, sym, ap, ◌∙◌, ltb-true, ltb-false, eqb-true, arith}
use Rattle.std.specs.List.{fold}
use Rattle.std.proofs.lemmas.List.Sums.{fold-append}
use Rattle.plan_model.specs.declared.graph.DataRegion.{DataRegion}
use Rattle.plan_model.specs.Choices.{first_of}
use Rattle.plan_model.specs.Lists.{placed, in_order, has, without}
use Rattle.plan_model.specs.Regions.{users}
use Rattle.plan_layout.specs.Lowest.{lesser, least}

-- ---- the lesser of two

lesser_none : (o : Option ℕ) → lesser o None ≡ o
lesser_none None = refl
lesser_none (Some a) = refl

lesser_assoc : (a b c : Option ℕ) → lesser (lesser a b) c ≡ lesser a (lesser b c)
lesser_assoc None b c = refl
lesser_assoc (Some a) None c = refl
lesser_assoc (Some a) (Some b) None = refl
lesser_assoc (Some a) (Some b) (Some c) = ap (λ n. Some n) (omega arith)

lesser_swap : (a b : Option ℕ) → lesser a b ≡ lesser b a
lesser_swap None b = sym (lesser_none b)
lesser_swap (Some a) None = refl
lesser_swap (Some a) (Some b) = ap (λ n. Some n) (omega arith)

-- ---- the least of a list

from : (o : Option ℕ) (ns : List ℕ) → fold (λ p n. lesser p (Some n)) o ns ≡ lesser o (least ns)
from o [] = sym (lesser_none o)
from o (n ∷ ns) = from (lesser o (Some n)) ns ∙ (lesser_assoc o (Some n) (least ns) ∙ ap (lesser o) (sym (from (Some n) ns)))

least_cons : (n : ℕ) (ns : List ℕ) → least (n ∷ ns) ≡ lesser (Some n) (least ns)
least_cons n ns = from (Some n) ns

least_append : (ns ms : List ℕ) → least (ns ++ ms) ≡ lesser (least ns) (least ms)
least_append ns ms = fold-append (λ p n. lesser p (Some n)) None ns ms ∙ from (least ns) ms

-- ---- in rising order

first_placed : (x : ℕ) (ys : List ℕ) → first_of (placed nat_lt x ys) ≡ lesser (Some x) (first_of ys)
first_placed x [] = refl
first_placed x (y ∷ ys) = by (nat_lt y x) refl
  where
    by : (b : Bool) → nat_lt y x ≡ b → first_of (cond b (y ∷ placed nat_lt x ys) (x ∷ y ∷ ys)) ≡ Some (min x y)
    by true e = let l = ltb-true y x e in ap (λ n. Some n) (omega arith)
    by false e = let l = ltb-false y x e in ap (λ n. Some n) (omega arith)

first_in_order : (ns : List ℕ) → first_of (in_order nat_lt ns) ≡ least ns
first_in_order [] = refl
first_in_order (n ∷ ns) = first_placed n (in_order nat_lt ns) ∙ (ap (lesser (Some n)) (first_in_order ns) ∙ sym (least_cons n ns))

-- ---- numbers that stand in another list add nothing

absorbed : (ns : List ℕ) (m : ℕ) → has ns m ≡ true → lesser (least ns) (Some m) ≡ least ns
absorbed [] m e = cc
absorbed (n ∷ ns) m e = by (nat_eq n m) refl e (absorbed ns m)
  where
    again : (o : Option ℕ) → n ≡ m → lesser (lesser (Some n) o) (Some m) ≡ lesser (Some n) o
    again None s = ap (λ k. Some k) (omega arith)
    again (Some k) s = ap (λ k. Some k) (omega arith)

    by : (b : Bool) → nat_eq n m ≡ b → (b || has ns m) ≡ true → (has ns m ≡ true → lesser (least ns) (Some m) ≡ least ns) → lesser (least (n ∷ ns)) (Some m) ≡ least (n ∷ ns)
    by true s h ih = ap (λ o. lesser o (Some m)) (least_cons n ns) ∙ (again (least ns) (eqb-true n m s) ∙ sym (least_cons n ns))
    by false s h ih =
        ap (λ o. lesser o (Some m)) (least_cons n ns)
        ∙ (lesser_assoc (Some n) (least ns) (Some m) ∙ (ap (lesser (Some n)) (ih h) ∙ sym (least_cons n ns)))

least_without : (ns ms : List ℕ) → lesser (least ns) (least (without ms ns)) ≡ lesser (least ns) (least ms)
least_without ns [] = refl
least_without ns (m ∷ ms) = by (has ns m) refl (least_without ns ms)
  where
    joined : (rest : List ℕ) → lesser (least ns) (least (m ∷ rest)) ≡ lesser (lesser (least ns) (Some m)) (least rest)
    joined rest = ap (lesser (least ns)) (least_cons m rest) ∙ sym (lesser_assoc (least ns) (Some m) (least rest))

    turned : (rest : List ℕ) → lesser (lesser (least ns) (Some m)) (least rest) ≡ lesser (lesser (Some m) (least ns)) (least rest)
    turned rest = ap (λ o. lesser o (least rest)) (lesser_swap (least ns) (Some m))

    front : (rest : List ℕ) → lesser (lesser (least ns) (Some m)) (least rest) ≡ lesser (Some m) (lesser (least ns) (least rest))
    front rest = turned rest ∙ lesser_assoc (Some m) (least ns) (least rest)

    by : (b : Bool) → has ns m ≡ b → lesser (least ns) (least (without ms ns)) ≡ lesser (least ns) (least ms)
        → lesser (least ns) (least (cond (not b) (m ∷ without ms ns) (without ms ns))) ≡ lesser (least ns) (least (m ∷ ms))
    by true e ih = ih ∙ (ap (λ o. lesser o (least ms)) (sym (absorbed ns m e)) ∙ sym (joined ms))
    by false e ih = joined (without ms ns) ∙ (front (without ms ns) ∙ (ap (lesser (Some m)) ih ∙ sym (joined ms ∙ front ms)))

-- the lowest user of a region
pub lowest_is : (r : DataRegion) → lesser (least r.writers) (least r.readers) ≡ first_of (users r)
lowest_is r =
    sym (first_in_order (r.writers ++ without r.readers r.writers) ∙ (least_append r.writers (without r.readers r.writers) ∙ least_without r.writers r.readers))

-- The covers of a compartment hold after joins what they held before; and each of them is an aligned power of two of peripherals.
use Rattle.std.proofs.Common.{◌≡◌, ℕ, ◌<◌, Bool, true, false, not, ◌&&◌, ◌||◌, List, [], ◌∷◌, length, filter, get_or, set, Some, nat_lt, nat_le, refl, ap, sym, ◌∙◌, subst, arith}
use Rattle.std.specs.List.{list_any}
use Rattle.std.proofs.lemmas.Bool.{leb-true, le-leb, cases_lt, cases_eq, or_left, or_right, and_from as both, and_parts}
use mathlib.Core.Logic.{⊎_elim}
use Rattle.std.proofs.lemmas.List.{get_or-set_same, get_or-set_other, get_or_past}
use Rattle.plan_model.specs.declared.graph.Cover.{Cover}
use Rattle.plan_model.specs.declared.graph.Graph.{Graph}
use Rattle.plan_model.specs.Covers.{is_inside, end_of, with_cover, joined, cover_at}
use Rattle.plan_model.specs.Merging.{covers_at, with_joined_cover, next}
use Rattle.ir_model.specs.Resolved.{Program}
use Rattle.plan_model.specs.FinalGraph.{Merges, stays, joins}
use Rattle.plan_model.proofs.Orders.{any_in_order}
use Rattle.image_promises.proofs.Kept.{by_next}
use Rattle.base_laws.proofs.Lists.{any_kept as any_filtered}

-- ---- tests over lists in an order

-- ---- a cover inside another

pub inside_through : (x c d : Cover) → is_inside x c ≡ true → is_inside c d ≡ true → is_inside x d ≡ true
inside_through x c d e f =
    let a = and_parts (nat_le c.base x.base) (nat_le (end_of x) (end_of c)) e in
    let b = and_parts (nat_le d.base c.base) (nat_le (end_of c) (end_of d)) f in
    let one = leb-true c.base x.base a.0 in
    let two = leb-true (end_of x) (end_of c) a.1 in
    let three = leb-true d.base c.base b.0 in
    let four = leb-true (end_of c) (end_of d) b.1 in
    both (nat_le d.base x.base) (nat_le (end_of x) (end_of d)) (le-leb d.base x.base (omega (arith, one, three))) (le-leb (end_of x) (end_of d) (omega (arith, two, four)))

-- ---- one join

still_inside : (x d : Cover) (cs : List Cover) → list_any (is_inside x) cs ≡ true → (is_inside x d || list_any (λ c. not (is_inside c d) && is_inside x c) cs) ≡ true
still_inside x d [] e = absurd (let f : false ≡ true = e in cc)
still_inside x d (c ∷ cs) e = by (is_inside x c) refl e (still_inside x d cs)
  where
    rest : Bool
    rest = list_any (λ c. not (is_inside c d) && is_inside x c) cs

    around : (b : Bool) → is_inside c d ≡ b → is_inside x c ≡ true → (is_inside x d || (not b && is_inside x c || rest)) ≡ true
    around true i h = or_left (is_inside x d) (false || rest) (inside_through x c d h i)
    around false i h = or_right (is_inside x d) (is_inside x c || rest) (or_left (is_inside x c) rest h)

    skip : (a b r : Bool) → (a || r) ≡ true → (a || (b || r)) ≡ true
    skip true b r h = refl
    skip false b r h = or_right b r h

    by : (b : Bool) → is_inside x c ≡ b → (b || list_any (is_inside x) cs) ≡ true → (list_any (is_inside x) cs ≡ true → (is_inside x d || rest) ≡ true) → (is_inside x d || (not (is_inside c d) && is_inside x c || rest)) ≡ true
    by true h f ih = around (is_inside c d) refl h
    by false h f ih = skip (is_inside x d) (not (is_inside c d) && is_inside x c) rest (ih f)

with_cover_holds : (x d : Cover) (cs : List Cover) → list_any (is_inside x) cs ≡ true → list_any (is_inside x) (with_cover cs d) ≡ true
with_cover_holds x d cs e =
    any_in_order (is_inside x) (λ (a b : Cover). nat_lt a.base b.base) (d ∷ filter (λ (c : Cover). not (is_inside c d)) cs)
    ∙ (ap (λ b. is_inside x d || b) (any_filtered (is_inside x) (λ (c : Cover). not (is_inside c d)) cs) ∙ still_inside x d cs e)

-- ---- joins of a graph

abbrev pub StaysCovered : Graph → Graph → Type 0
StaysCovered g h = (c : ℕ) (x : Cover) → list_any (is_inside x) (get_or g.covers c []) ≡ true → list_any (is_inside x) (get_or h.covers c []) ≡ true

covered_set : (x : Cover) (css : List (List Cover)) (k : ℕ) (new : List Cover) (c : ℕ) → (list_any (is_inside x) (get_or css k []) ≡ true → list_any (is_inside x) new ≡ true)
    → list_any (is_inside x) (get_or css c []) ≡ true → list_any (is_inside x) (get_or (set css k new) c []) ≡ true
covered_set x css k new c f e = ⊎_elim same other (cases_eq c k)
  where
    there : (j : ℕ) → list_any (is_inside x) (get_or css j []) ≡ true → j < length css
    there j h = ⊎_elim (λ lt. lt) (λ le. absurd (let none = ap (list_any (is_inside x)) (get_or_past css j [] le) in let wrong : false ≡ true = sym none ∙ h in cc)) (cases_lt j (length css))

    same : c ≡ k → list_any (is_inside x) (get_or (set css k new) c []) ≡ true
    same s =
        let h : list_any (is_inside x) (get_or css k []) ≡ true = subst (λ j. list_any (is_inside x) (get_or css j []) ≡ true) s e in
        ap (λ j. list_any (is_inside x) (get_or (set css k new) j [])) s ∙ (ap (list_any (is_inside x)) (get_or-set_same css k new [] (there k h)) ∙ f h)

    other : (c ≡ k → ⊥) → list_any (is_inside x) (get_or (set css k new) c []) ≡ true
    other d = ap (list_any (is_inside x)) (get_or-set_other css k c new [] d) ∙ e

stays_next : (p : Program) (slots : ℕ) (g h : Graph) → next p slots g ≡ Some h → StaysCovered g h
stays_next p slots g h e =
    by_next p StaysCovered (λ a q c f k x i. i)
    (λ a c q f k x i. covered_set x a.covers c (with_joined_cover (covers_at a c) q) k (with_cover_holds x (joined (cover_at (covers_at a c) q.first) (cover_at (covers_at a c) q.second)) (covers_at a c)) i)
    slots g h e

pub stays_all : (p : Program) (slots : ℕ) (g h : Graph) → Merges p slots g h → StaysCovered g h
stays_all p slots g h stays c x i = i
stays_all p slots g k (joins {h = h} e m) c x i = stays_all p slots h k m c x (stays_next p slots g h e c x i)

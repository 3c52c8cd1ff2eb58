-- Each function stands in a compartment.
use Rattle.std.proofs.Common.{◌≡◌, ℕ, suc, ◌<◌, ◌≤◌, Bool, true, false, ◌||◌, List, [], ◌∷◌, length, get_or, cond, map, nat_eq, nat_lt, count_by, refl, ap, ◌∙◌, eq-eqb, eqb-true, le-ltb, arith}
use Rattle.std.proofs.lemmas.List.{get_or-map, length-map}
use Rattle.std.proofs.lemmas.List.Folds.{list_any_at}
use Rattle.std.proofs.lemmas.List.Sums.{sum_by-cons, count_by-le-length}
use Rattle.ir_model.specs.Resolved.{Program}
use Rattle.plan_model.specs.declared.groups.Groups.{Groups}
use Rattle.plan_model.specs.Lists.{has}
use Rattle.plan_model.specs.Compartments.{AreCompartments, compartments, compartment_number, used_groups}
use Rattle.plan_model.specs.Groups.{compartment_of}
use Rattle.plan_policies.proofs.Distinct.{any_distinct}

pub record IsIn (g : Groups) (func : ℕ) : Type 0 where
  pub listed : func < length g.of
  pub below : compartment_of g func < g.count

abbrev one_if : Bool → ℕ
one_if b = cond b 1 0

at_most_one : (b : Bool) → one_if b ≤ 1
at_most_one true = omega arith
at_most_one false = omega arith

one_fewer : (x : ℕ) (xs : List ℕ) (g : ℕ) (b : Bool) → nat_eq x g ≡ b → (b || has xs g) ≡ true → (has xs g ≡ true → count_by (λ h. nat_lt h g) xs < length xs)
    → count_by (λ h. nat_lt h g) (x ∷ xs) < suc (length xs)
one_fewer x xs g true s f ih =
    let step = sum_by-cons (λ h. one_if (nat_lt h g)) x xs in
    let same = eqb-true x g s in
    let none : one_if (nat_lt x g) ≡ 0 = ap one_if (le-ltb x g (omega (arith, same))) in
    let most = count_by-le-length (λ h. nat_lt h g) xs in
    omega (arith, step, none, most)
one_fewer x xs g false s f ih =
    let step = sum_by-cons (λ h. one_if (nat_lt h g)) x xs in
    let less = ih f in
    let one = at_most_one (nat_lt x g) in
    omega (arith, step, one, less)

-- fewer are below one of them than there are
fewer : (xs : List ℕ) (g : ℕ) → has xs g ≡ true → count_by (λ h. nat_lt h g) xs < length xs
fewer [] g e = absurd (let f : false ≡ true = e in cc)
fewer (x ∷ xs) g e = one_fewer x xs g (nat_eq x g) refl e (fewer xs g)

through : (x y g : ℕ) → nat_eq x y ≡ true → nat_eq x g ≡ nat_eq y g
through x y g e = ap (λ z. nat_eq z g) (eqb-true x y e)

pub in_compartment : (p : Program) (g : Groups) → AreCompartments p g → (h : ℕ) → h < length p.funcs → IsIn g h
unfolding compartments
in_compartment p g a h l =
    let there : h < length a.groups = let e = a.each in omega (arith, e) in
    let size = length-map a.groups (compartment_number a.groups) in
    let len : length g.of ≡ length (map (compartment_number a.groups) a.groups) = ap (λ (x : Groups). length x.of) a.are in
    let x : ℕ = get_or a.groups h 0 in
    let found : has a.groups x ≡ true = list_any_at (λ m. nat_eq m x) a.groups h 0 there (eq-eqb x x refl) in
    let used : has (used_groups a.groups) x ≡ true = any_distinct nat_eq a.groups x (λ y z s t. through y z x s ∙ t) ∙ found in
    let few = fewer (used_groups a.groups) x used in
    let number : compartment_of g h ≡ compartment_number a.groups x =
    ap (λ (y : Groups). get_or y.of h 0) a.are ∙ get_or-map (compartment_number a.groups) a.groups h 0 0 there in
    let count : g.count ≡ length (used_groups a.groups) = ap (λ (y : Groups). y.count) a.are in
    record { listed = omega (arith, size, len, there); below = omega (arith, few, number, count) }

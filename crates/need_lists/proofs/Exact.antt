-- Lists of exactly what has a property, and lists to which an item or more were put.
use Rattle.std.proofs.Common.{◌≡◌, ◌↔◌, ℕ, ◌+◌, ◌<◌, ◌≤◌, Bool, true, List, [], ◌∷◌, ◌++◌, length, get_or, sym, ap, subst, ◌∙◌, inl, inr, arith}
use Rattle.std.proofs.lemmas.Bool.{cases_lt}
use Rattle.std.proofs.lemmas.List.{get_or_append_left, get_or_push}
use Rattle.std.specs.Prelude.{◌⊎◌, filter, Contains}
use Rattle.std.specs.declared.cmp.Ordering.{Ordering}
use Rattle.std.proofs.lemmas.List.Kept.{IsStrictlySortedBy-filter}
use Rattle.std.proofs.lemmas.List.Elements.{Contains-append_left, Contains-append_right, Contains-append_cases}
use Rattle.plan_model.specs.Lists.{ListsExactly}
use Rattle.need_lists.proofs.Parts.{head}
use Rattle.need_lists.proofs.Members.{filtered, from_filter}
use Rattle.base_laws.proofs.Lists.{only_one as only}

pub exactly_by : {X : Type 0} (cmp : X → X → Ordering) (P Q : X → Type 0) (xs : List X) → ((x : X) → P x ↔ Q x) → ListsExactly cmp P xs → ListsExactly cmp Q xs
exactly_by cmp P Q xs same e = record { rising = e.rising; each = λ x h. (same x).0 (e.each x h); all = λ x h. e.all x ((same x).1 h) }

pub kept_exactly : {X : Type 0} (cmp : X → X → Ordering) (P : X → Type 0) (p : X → Bool) (xs : List X) → ListsExactly cmp P xs → ListsExactly cmp (λ x. (p x ≡ true) × P x) (filter p xs)
kept_exactly cmp P p xs e =
    record {
      rising = IsStrictlySortedBy-filter cmp p xs e.rising;
      each = λ x h. let f = from_filter p x xs h in (f.1, e.each x f.0);
      all = λ x h. filtered p x xs (e.all x h.1) h.0;
    }

-- behind items others were put, which are those that have a property
pub appended : {X : Type 0} (xs ys zs : List X) (h : X) (P : Type 0) → ys ≡ xs ++ zs → Contains zs h ↔ P → Contains ys h ↔ (Contains xs h ⊎ P)
appended {X} xs ys zs h P e same = (
  (λ c. from (Contains-append_cases xs zs h (subst (λ l. Contains l h) e c))),
  λ c. subst (λ l. Contains l h) (sym e) (to c),
)
  where
    from : Contains xs h ⊎ Contains zs h → Contains xs h ⊎ P
    from (inl c) = inl c
    from (inr c) = inr (same.0 c)

    to : Contains xs h ⊎ P → Contains (xs ++ zs) h
    to (inl c) = Contains-append_left xs zs h c
    to (inr k) = Contains-append_right xs zs h (same.1 k)

pub pushed : {X : Type 0} (xs ys : List X) (x h : X) (P : Type 0) → ys ≡ xs ++ x ∷ [] → (x ≡ h → P) → (P → x ≡ h) → Contains ys h ↔ (Contains xs h ⊎ P)
pushed {X} xs ys x h P e to from = appended xs ys (x ∷ []) h P e ((λ c. to (only x h c)), λ k. subst (λ (y : X). Contains (y ∷ []) h) (sym (from k)) (head h []))

pub unpushed : {X : Type 0} (xs : List X) (h : X) (P : Type 0) → (P → ⊥) → Contains xs h ↔ (Contains xs h ⊎ P)
unpushed {X} xs h P none = ((λ c. inl c), back)
  where
    back : Contains xs h ⊎ P → Contains xs h
    back (inl c) = c
    back (inr k) = absurd (none k)

-- what holds of each item by its number, one item more
pub each_pushed : {X : Type 0} (P : ℕ → X → Type 0) (d : X) (old new : List X) (x : X) (n : ℕ) → new ≡ old ++ x ∷ [] → length old ≡ n
    → ((f : ℕ) → f < n → P f (get_or old f d)) → P n x → (f : ℕ) → f < n + 1 → P f (get_or new f d)
each_pushed {X} P d old new x n e l h last f b = by (cases_lt f n)
  where
    by : (f < n) ⊎ (n ≤ f) → P f (get_or new f d)
    by (inl a) =
        let q : f < length old = omega arith in
        subst (P f) (sym (ap (λ y. get_or y f d) e ∙ get_or_append_left old (x ∷ []) d f q)) (h f a)
    by (inr a) =
        let q : length old ≡ f = omega arith in
        let r : n ≡ f = omega arith in
        subst (P f) (sym (ap (λ y. get_or y f d) e ∙ get_or_push old x d f q)) (subst (λ (k : ℕ). P k x) r last)

-- The data regions of a program before any join: each global that has users is in just one of them, by its users.
use Rattle.std.proofs.Common.{◌≡◌, ℕ, zero, suc, ◌<◌, Bool, true, false, not, ◌&&◌, List, [], ◌∷◌, length, map, filter, cond, get_or, refl, ap, sym, ◌∙◌, subst, arith}
use Rattle.std.specs.List.{list_any}
use Rattle.std.specs.Cmp.Lexicographic.{same_text}
use Rattle.std.proofs.lemmas.Bool.{and_parts, cases_order, not-true, and_from as both}
use Rattle.std.proofs.lemmas.Cmp.{nat_list_eq_equiv}
use Rattle.std.proofs.lemmas.List.{get_or-map, length-map}
use mathlib.Core.Logic.{⊎_elim}
use Rattle.base_laws.specs.Lists.{Each}
use Rattle.ir_model.specs.Resolved.{Program}
use Rattle.plan_model.specs.declared.needs.Needs.{Needs}
use Rattle.plan_model.specs.declared.groups.Groups.{Groups}
use Rattle.plan_model.specs.declared.graph.DataRegion.{DataRegion}
use Rattle.plan_model.specs.Lists.{has, numbers_below, same_numbers, distinct}
use Rattle.plan_model.specs.Regions.{region_at, no_region}
use Rattle.plan_model.specs.InitialGraph.{Users, users_of, has_users, same_users, kinds_of_users, region_for, data_regions, unwritten}
use Rattle.plan_graph.specs.UserLists.{no_users}
use Rattle.plan_policies.proofs.Distinct.{any_distinct, any_seen}
use Rattle.base_laws.proofs.Lists.{each_at}
use Rattle.image_promises.proofs.Lists.{any_index, passing_among, among_passing, each_passing, each_map, below_all}
use Rattle.image_promises.proofs.Joins.{EachRegion, SomeRegion, ShareNoGlobal}
use Rattle.base_laws.proofs.Lists.{any_kept as any_filtered}
use Rattle.plan_model.proofs.Numbers.{one_passes}
use Rattle.plan_model.proofs.SameUsers.{same_through}

-- ---- lists without repeats

module _ {X : Type 0} (same : X → X → Bool) where
  -- no two are the same
  abbrev Differ : List X → Type 0
  Differ [] = Unit {0}
  Differ (x ∷ xs) = Each (λ y. same x y ≡ false) xs × Differ xs

  differ_kept : (test : X → Bool) (xs : List X) → Differ xs → Differ (filter test xs)
  differ_kept test [] d = tt
  differ_kept test (x ∷ xs) d = by (test x) (differ_kept test xs d.1)
    where
      by : (b : Bool) → Differ (filter test xs) → Differ (cond b (x ∷ filter test xs) (filter test xs))
      by true ih = (each_passing (λ y. same x y ≡ false) (λ y. same x y ≡ false) test xs (λ y h t. h) d.0, ih)
      by false ih = ih

  everything : (xs : List X) → Each (λ x. Unit {0}) xs
  everything [] = tt
  everything (x ∷ xs) = (tt, everything xs)

  distinct_differ : (xs : List X) → Differ (distinct same xs)
  distinct_differ [] = tt
  distinct_differ (x ∷ xs) = (
    each_passing (λ y. Unit {0}) (λ y. same x y ≡ false) (λ y. not (same x y)) (distinct same xs) (λ y h t. not-true (same x y) t) (everything (distinct same xs)),
    differ_kept (λ y. not (same x y)) (distinct same xs) (distinct_differ xs),
  )

  differ_at : (d : X) (xs : List X) → Differ xs → (i j : ℕ) → i < j → j < length xs → same (get_or xs i d) (get_or xs j d) ≡ false
  differ_at d [] h i j l m = absurd (omega arith)
  differ_at d (x ∷ xs) h i zero l m = absurd (omega arith)
  differ_at d (x ∷ xs) h zero (suc j) l m = each_at (λ y. same x y ≡ false) xs d j h.0 (omega arith)
  differ_at d (x ∷ xs) h (suc i) (suc j) l m = differ_at d xs h.1 i j (omega arith) (omega arith)

  each_distinct : (P : X → Type 0) (xs : List X) → Each P xs → Each P (distinct same xs)
  each_distinct P [] e = tt
  each_distinct P (x ∷ xs) e = (e.0, each_passing P P (λ y. not (same x y)) (distinct same xs) (λ y h t. h) (each_distinct P xs e.1))

-- ---- users

users_agree : (u v : Users) → same_users u v ≡ true → (u.writers ≡ v.writers) × (u.readers ≡ v.readers)
users_agree u v e =
    let parts = and_parts (same_numbers u.writers v.writers) (same_numbers u.readers v.readers) e in
    (same_text u.writers v.writers (sym parts.0), same_text u.readers v.readers (sym parts.1))

agree_users : (u v : Users) → u.writers ≡ v.writers → u.readers ≡ v.readers → same_users u v ≡ true
agree_users u v e f =
    both (same_numbers u.writers v.writers) (same_numbers u.readers v.readers)
    (ap (λ ns. same_numbers u.writers ns) (sym e) ∙ nat_list_eq_equiv.refl u.writers) (ap (λ ns. same_numbers u.readers ns) (sym f) ∙ nat_list_eq_equiv.refl u.readers)

-- ---- the first regions

module _ (p : Program) (n : Needs) (g : Groups) where
  abbrev count : ℕ
  count = length p.globals

  abbrev users : ℕ → Users
  users x = users_of n g x

  abbrev kinds : List Users
  kinds = kinds_of_users p n g

  abbrev kind_at : ℕ → Users
  kind_at r = get_or kinds r no_users

  abbrev first : List DataRegion
  first = data_regions p n g

  -- a kind is the users of a global, and some
  record IsKind (u : Users) : Type 0 where
    global : ℕ
    below : global < count
    writers : (users global).writers ≡ u.writers
    readers : (users global).readers ≡ u.readers
    some : has_users u ≡ true

  -- the users of one of the globals
  record IsOfGlobal (u : Users) : Type 0 where
    global : ℕ
    below : global < count
    writers : (users global).writers ≡ u.writers
    readers : (users global).readers ≡ u.readers

  each_kind : Each IsKind kinds
  each_kind =
      each_distinct same_users IsKind (filter has_users (map users (numbers_below count)))
      (each_passing IsOfGlobal IsKind has_users (map users (numbers_below count)) (λ u h t. record { global = h.global; below = h.below; writers = h.writers; readers = h.readers; some = t })
      (each_map IsOfGlobal users (λ j. j < count) (numbers_below count) (λ x l. record { global = x; below = l; writers = refl; readers = refl }) (below_all 0 count count (omega arith))))

  as_many : length first ≡ length kinds
  as_many = length-map kinds (region_for p n g)

  region_is : (r : ℕ) → r < length first → region_at first r ≡ region_for p n g (kind_at r)
  region_is r l = let size = as_many in get_or-map (region_for p n g) kinds r no_users no_region (omega (arith, size, l))

  kind_is : (r : ℕ) → r < length first → IsKind (kind_at r)
  kind_is r l = let size = as_many in each_at IsKind kinds no_users r each_kind (omega (arith, size, l))

  -- a global is in the region of its users
  record IsOf (r x : ℕ) : Type 0 where
    below : x < count
    writers : (users x).writers ≡ (kind_at r).writers
    readers : (users x).readers ≡ (kind_at r).readers

  is_of : (r x : ℕ) → r < length first → has (region_at first r).globals x ≡ true → IsOf r x
  is_of r x l h =
      let m = among_passing (λ y. same_users (users y) (kind_at r)) x 0 count (subst (λ (q : DataRegion). has q.globals x ≡ true) (region_is r l) h) in
      let high = m.1 in
      let agree = users_agree (users x) (kind_at r) m.2 in
      record { below = omega (arith, high); writers = agree.0; readers = agree.1 }

  of_it : (r x : ℕ) → r < length first → IsOf r x → has (region_at first r).globals x ≡ true
  of_it r x l i =
      subst (λ (q : DataRegion). has q.globals x ≡ true) (sym (region_is r l))
      (passing_among (λ y. same_users (users y) (kind_at r)) x count i.below (agree_users (users x) (kind_at r) i.writers i.readers))

  pub first_some : (x : ℕ) → x < count → has_users (users x) ≡ true → SomeRegion (λ q. has q.globals x ≡ true) first
  first_some x l t =
      let same : Users → Bool = λ u. same_users u (users x) in
      let among : list_any same kinds ≡ true =
      any_distinct same_users (filter has_users (map users (numbers_below count))) (users x) (λ y z. same_through y z (users x))
      ∙ (any_filtered same has_users (map users (numbers_below count))
      ∙ (sym (any_seen users (λ u. has_users u && same u) (numbers_below count))
      ∙ one_passes (λ y. has_users (users y) && same (users y)) x count l (both (has_users (users x)) (same (users x)) t (agree_users (users x) (users x) refl refl)))) in
      let k = any_index same no_users kinds among in
      let size = as_many in
      let low = k.1 in
      let agree = users_agree (kind_at k.0) (users x) k.2 in
      let there : k.0 < length first = omega (arith, size, low) in
      (k.0, there, of_it k.0 x there (record { below = l; writers = sym agree.0; readers = sym agree.1 }))

  one_region : (r s x : ℕ) → r < length first → s < length first → IsOf r x → IsOf s x → r < s → ⊥
  one_region r s x l m i j lt =
      let size = as_many in
      let differ = differ_at same_users no_users kinds (distinct_differ same_users (filter has_users (map users (numbers_below count)))) r s lt (omega (arith, size, m)) in
      let agree = agree_users (kind_at r) (kind_at s) (sym i.writers ∙ j.writers) (sym i.readers ∙ j.readers) in
      let wrong : false ≡ true = sym differ ∙ agree in
      cc

  pub first_apart : ShareNoGlobal first
  first_apart r s x l m h k =
      let i = is_of r x l h in
      let j = is_of s x m k in
      ⊎_elim (λ e. e) (λ d. ⊎_elim (λ lt. absurd (one_region r s x l m i j lt)) (λ gt. absurd (one_region s r x m l j i gt)) d) (cases_order r s)

  pub first_filled : EachRegion (λ q. (x : ℕ) × (has q.globals x ≡ true)) first
  first_filled r l = let k = kind_is r l in (k.global, of_it r k.global l (record { below = k.below; writers = k.writers; readers = k.readers }))

  pub first_below : EachRegion (λ q. (x : ℕ) → has q.globals x ≡ true → x < count) first
  first_below r l x h = (is_of r x l h).below

  pub first_writers : (x c : ℕ) → has (users x).writers c ≡ true → EachRegion (λ q. has q.globals x ≡ true → has q.writers c ≡ true) first
  first_writers x c t r l h = let i = is_of r x l h in subst (λ (q : DataRegion). has q.writers c ≡ true) (sym (region_is r l)) (subst (λ ws. has ws c ≡ true) i.writers t)

  pub first_readers : (x c : ℕ) → has (users x).readers c ≡ true → EachRegion (λ q. has q.globals x ≡ true → has q.readers c ≡ true) first
  first_readers x c t r l h = let i = is_of r x l h in subst (λ (q : DataRegion). has q.readers c ≡ true) (sym (region_is r l)) (subst (λ ws. has ws c ≡ true) i.readers t)

  -- the globals of no region
  pub free_are : (x : ℕ) → has (unwritten p n g) x ≡ true → (x < count) × (has_users (users x) ≡ false)
  free_are x h =
      let m = among_passing (λ y. not (has_users (users y))) x 0 count h in
      let high = m.1 in
      (omega (arith, high), not-true (has_users (users x)) m.2)

  pub are_free : (x : ℕ) → x < count → has_users (users x) ≡ false → has (unwritten p n g) x ≡ true
  are_free x l e = passing_among (λ y. not (has_users (users y))) x count l (ap not e)

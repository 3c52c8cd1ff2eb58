-- The data regions of the final graph: each global is in just one of them, or in none if nobody uses it; each has a global, and all
-- who write or read one of its globals are among its writers or readers.
use Rattle.std.proofs.Common.{◌≡◌, ℕ, ◌<◌, ◌⊎◌, inl, inr, Bool, true, false, not, ◌&&◌, ◌||◌, List, [], ◌∷◌, length, cond, Some, None, refl, ap, sym, ◌∙◌, subst, arith}
use Rattle.std.proofs.lemmas.List.Quantifiers.{position-Some}
use mathlib.Core.Logic.{⊎_elim}
use Rattle.plan_layout.proofs.Searches.{position_here}
use Rattle.ir_model.specs.declared.object.ObjId.TheVariants.{Global}
use Rattle.plan_model.specs.declared.graph.DataRegion.{DataRegion}
use Rattle.plan_model.specs.declared.graph.Final.{Final}
use Rattle.plan_model.specs.Lists.{has, is_empty, union}
use Rattle.plan_model.specs.Groups.{writes, reads}
use Rattle.plan_model.specs.Regions.{region_at, no_region}
use Rattle.plan_model.specs.InitialGraph.{Users, users_of, has_users, compartments_that, initial_graph, data_regions, unwritten}
use Rattle.plan_model.specs.Placement.{region_with}
use Rattle.plan_graph.proofs.UsersHave.{has_union}
use Rattle.image_promises.proofs.FinalGraphs.{FinalGraph}
use Rattle.image_promises.proofs.Kept.{kept_final}
use Rattle.image_promises.proofs.Joins.{EachRegion, SomeRegion, ShareNoGlobal, StaysOfBoth, StaysOfOne, each_all, some_all, apart_all}
use Rattle.image_promises.proofs.Lists.{passing_among}
use Rattle.image_promises.proofs.FirstRegions.{first_some, first_apart, first_filled, first_below, first_writers, first_readers, free_are, are_free}
use Rattle.std.proofs.lemmas.Bool.{or_cases as either}

-- ---- what joins keep

or_of : (a b : Bool) → (a ≡ true) ⊎ (b ≡ true) → (a || b) ≡ true
or_of true b e = refl
or_of false b (inl e) = absurd (let wrong : false ≡ true = e in cc)
or_of false b (inr e) = e

of_union : (ns ms : List ℕ) (n : ℕ) → has (union ns ms) n ≡ true → (has ns n ≡ true) ⊎ (has ms n ≡ true)
of_union ns ms n h = either (has ns n) (has ms n) (sym (has_union ns ms n) ∙ h)

to_union : (ns ms : List ℕ) (n : ℕ) → (has ns n ≡ true) ⊎ (has ms n ≡ true) → has (union ns ms) n ≡ true
to_union ns ms n h = has_union ns ms n ∙ or_of (has ns n) (has ms n) h

-- a global stays in a region
has_stays : (x : ℕ) → StaysOfOne (λ q. has q.globals x ≡ true)
has_stays x a b h = to_union a.globals b.globals x h

-- what holds of each global of a region
each_stays : (P : ℕ → Type 0) → StaysOfBoth (λ q. (x : ℕ) → has q.globals x ≡ true → P x)
each_stays P a b f g x h = ⊎_elim (f x) (g x) (of_union a.globals b.globals x h)

filled_stays : StaysOfBoth (λ q. (x : ℕ) × (has q.globals x ≡ true))
filled_stays a b f g = (f.0, to_union a.globals b.globals f.0 (inl f.1))

writers_stay : (x c : ℕ) → StaysOfBoth (λ q. has q.globals x ≡ true → has q.writers c ≡ true)
writers_stay x c a b f g h = to_union a.writers b.writers c (⊎_elim (λ y. inl (f y)) (λ y. inr (g y)) (of_union a.globals b.globals x h))

readers_stay : (x c : ℕ) → StaysOfBoth (λ q. has q.globals x ≡ true → has q.readers c ≡ true)
readers_stay x c a b f g h = to_union a.readers b.readers c (⊎_elim (λ y. inl (f y)) (λ y. inr (g y)) (of_union a.globals b.globals x h))

some_number : (ns : List ℕ) (n : ℕ) → has ns n ≡ true → is_empty ns ≡ false
some_number [] n h = absurd (let wrong : false ≡ true = h in cc)
some_number (m ∷ ns) n h = refl

used_by : (a b : Bool) → (a ≡ false) ⊎ (b ≡ false) → not (a && b) ≡ true
used_by false b e = refl
used_by true false e = refl
used_by true true (inl e) = sym e
used_by true true (inr e) = sym e

-- ---- the final graph

module _ (graph : FinalGraph) where
  open graph use {program as p, needs as n, final as f, slots, is_final as final}

  abbrev count : ℕ
  count = length p.globals

  abbrev users : ℕ → Users
  users x = users_of n f.groups x

  regions_are : f.regions ≡ final.last.regions
  regions_are = ap (λ (x : Final). x.regions) final.is

  unwritten_is : f.unwritten ≡ unwritten p n f.groups
  unfolding initial_graph
  unwritten_is = (kept_final p slots (initial_graph p n f.groups) f final).unwritten

  each_final : (Q : DataRegion → Type 0) → StaysOfBoth Q → EachRegion Q (data_regions p n f.groups) → EachRegion Q f.regions
  unfolding initial_graph
  each_final Q s e = subst (EachRegion Q) (sym regions_are) (each_all Q s p slots (initial_graph p n f.groups) final.last final.reached e)

  some_final : (Q : DataRegion → Type 0) → StaysOfOne Q → SomeRegion Q (data_regions p n f.groups) → SomeRegion Q f.regions
  unfolding initial_graph
  some_final Q s e = subst (SomeRegion Q) (sym regions_are) (some_all Q s p slots (initial_graph p n f.groups) final.last final.reached e)

  -- no global is in two regions
  pub apart : ShareNoGlobal f.regions
  unfolding initial_graph
  apart = subst ShareNoGlobal (sym regions_are) (apart_all p slots (initial_graph p n f.groups) final.last final.reached (first_apart p n f.groups))

  -- each region has a global
  pub filled : EachRegion (λ q. (x : ℕ) × (has q.globals x ≡ true)) f.regions
  filled = each_final (λ q. (x : ℕ) × (has q.globals x ≡ true)) filled_stays (first_filled p n f.groups)

  -- their globals are there, and have users
  pub below : EachRegion (λ q. (x : ℕ) → has q.globals x ≡ true → x < count) f.regions
  below = each_final (λ q. (x : ℕ) → has q.globals x ≡ true → x < count) (each_stays (λ x. x < count)) (first_below p n f.groups)

  -- the globals of no region are there, and have no users
  pub unwritten_below : (x : ℕ) → has f.unwritten x ≡ true → x < count
  unwritten_below x h = (free_are p n f.groups x (subst (λ ns. has ns x ≡ true) unwritten_is h)).0

  -- a global that has users is in a region, and any other one is in none
  pub in_region : (x : ℕ) → x < count → has_users (users x) ≡ true → SomeRegion (λ q. has q.globals x ≡ true) f.regions
  in_region x l t = some_final (λ q. has q.globals x ≡ true) (has_stays x) (first_some p n f.groups x l t)

  pub in_none : (x : ℕ) → x < count → has_users (users x) ≡ false → has f.unwritten x ≡ true
  in_none x l e = subst (λ ns. has ns x ≡ true) (sym unwritten_is) (are_free p n f.groups x l e)

  pub somewhere : (x : ℕ) → x < count → SomeRegion (λ q. has q.globals x ≡ true) f.regions ⊎ (has f.unwritten x ≡ true)
  somewhere x l = by (has_users (users x)) refl
    where
      by : (b : Bool) → has_users (users x) ≡ b → SomeRegion (λ q. has q.globals x ≡ true) f.regions ⊎ (has f.unwritten x ≡ true)
      by true e = inl (in_region x l e)
      by false e = inr (in_none x l e)

  -- ---- who may write and read

  pub writers : (x c : ℕ) → c < f.groups.count → writes n f.groups c (Global x) ≡ true → EachRegion (λ q. has q.globals x ≡ true → has q.writers c ≡ true) f.regions
  writers x c l t =
      each_final (λ q. has q.globals x ≡ true → has q.writers c ≡ true) (writers_stay x c)
      (first_writers p n f.groups x c (passing_among (λ d. writes n f.groups d (Global x)) c f.groups.count l t))

  is_reader : (x c : ℕ) → n.closed ≡ true → c < f.groups.count → reads n f.groups c (Global x) ≡ true → has (users x).readers c ≡ true
  is_reader x c closed l t = by n.closed closed
    where
      by : (b : Bool) → b ≡ true → has (cond b (compartments_that f.groups (λ d. reads n f.groups d (Global x))) []) c ≡ true
      by true e = passing_among (λ d. reads n f.groups d (Global x)) c f.groups.count l t
      by false e = absurd (let wrong : false ≡ true = e in cc)

  pub readers : (x c : ℕ) → n.closed ≡ true → c < f.groups.count → reads n f.groups c (Global x) ≡ true → EachRegion (λ q. has q.globals x ≡ true → has q.readers c ≡ true) f.regions
  readers x c closed l t = each_final (λ q. has q.globals x ≡ true → has q.readers c ≡ true) (readers_stay x c) (first_readers p n f.groups x c (is_reader x c closed l t))

  -- a global that a compartment may write has users, and on a closed board one that it may read
  pub written_used : (x c : ℕ) → c < f.groups.count → writes n f.groups c (Global x) ≡ true → has_users (users x) ≡ true
  written_used x c l t = used_by (is_empty (users x).writers) (is_empty (users x).readers) (inl (some_number (users x).writers c (passing_among (λ d. writes n f.groups d (Global x)) c f.groups.count l t)))

  pub read_used : (x c : ℕ) → n.closed ≡ true → c < f.groups.count → reads n f.groups c (Global x) ≡ true → has_users (users x) ≡ true
  read_used x c closed l t = used_by (is_empty (users x).writers) (is_empty (users x).readers) (inr (some_number (users x).readers c (is_reader x c closed l t)))

  -- ---- the region of a global

  -- it is found
  pub region_is : (r x : ℕ) → r < length f.regions → has (region_at f.regions r).globals x ≡ true → region_with f x ≡ Some r
  region_is r x l h = sym (position_here (λ (q : DataRegion). has q.globals x) f.regions r no_region l others h)
    where
      others : (k : ℕ) → k < r → has (region_at f.regions k).globals x ≡ false
      others k m = by (has (region_at f.regions k).globals x) refl
        where
          by : (b : Bool) → has (region_at f.regions k).globals x ≡ b → has (region_at f.regions k).globals x ≡ false
          by false e = e
          by true e = absurd (let same = apart k r x (omega (arith, m, l)) l e h in omega (arith, same, m))

  pub region_has : (r x : ℕ) → region_with f x ≡ Some r → (r < length f.regions) × (has (region_at f.regions r).globals x ≡ true)
  region_has r x e = let h = position-Some (λ (q : DataRegion). has q.globals x) f.regions r no_region e in (h.0, h.1)

  -- or there is none
  pub no_region_is : (x : ℕ) → x < count → region_with f x ≡ None → has f.unwritten x ≡ true
  no_region_is x l e = ⊎_elim (λ s. absurd (let found = region_is s.0 x s.1 s.2 in let wrong : Some s.0 ≡ None = sym found ∙ e in cc)) (λ h. h) (somewhere x l)

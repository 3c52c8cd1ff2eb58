-- What joins do with data regions: of the two, the lower one becomes the region of both, the other one is taken out, and all others stay.
use Rattle.std.proofs.Common.{◌≡◌, ℕ, zero, suc, ◌<◌, ◌≤◌, ◌+◌, ◌-◌, ◌⊎◌, inl, inr, Bool, true, false, List, [], ◌∷◌, length, map, filter, cond, set, Some, refl, ap, sym, ◌∙◌, subst, arith}
use Rattle.std.specs.List.{range_with_len}
use Rattle.std.proofs.lemmas.Bool.{cases_lt, cases_eq, or_cases}
use Rattle.std.proofs.lemmas.List.{get_or-set_same, get_or-set_other, length-set}
use Rattle.std.proofs.lemmas.List.Edits.{length-remove, get_or-remove_below, get_or-remove_above}
use mathlib.Core.Logic.{⊎_elim}
use Rattle.base_laws.specs.Lists.{Each}
use Rattle.ir_model.specs.Resolved.{Program}
use Rattle.plan_model.specs.declared.graph.DataRegion.{DataRegion}
use Rattle.plan_model.specs.declared.graph.Graph.{Graph}
use Rattle.plan_model.specs.Lists.{has}
use Rattle.plan_model.specs.Choices.{Pair, pairs}
use Rattle.plan_model.specs.Regions.{region_at, no_region, is_user, regions_used}
use Rattle.plan_model.specs.Merging.{joined_region, with_joined_region, region_cost, region_pair, next}
use Rattle.plan_model.specs.FinalGraph.{Merges, stays, joins}
use Rattle.plan_graph.proofs.UsersHave.{has_union}
use Rattle.image_promises.proofs.Kept.{by_next}
use Rattle.image_promises.proofs.CoverParts.{cheapest_is}
use Rattle.base_laws.proofs.Lists.{each_both}

-- ---- the pair that is joined

-- one number, and a higher one below a bound
abbrev pub IsRising : (bound : ℕ) → Pair → Type 0
IsRising n q = (q.first < q.second) × (q.second < n)

paired : (a n : ℕ) (ms : List ℕ) → Each (λ m. (a < m) × (m < n)) ms → Each (IsRising n) (map (λ (m : ℕ). record { first = a; second = m }) ms)
paired a n [] e = tt
paired a n (m ∷ ms) e = (e.0, paired a n ms e.1)

kept_between : (test : ℕ → Bool) (low high from count : ℕ) → low ≤ from → from + count ≤ high → Each (λ m. (low ≤ m) × (m < high)) (filter test (range_with_len from count))
kept_between test low high from zero l h = tt
kept_between test low high from (suc n) l h = by (test from) (kept_between test low high (from + 1) n (omega arith) (omega arith))
  where
    by : (b : Bool) → Each (λ m. (low ≤ m) × (m < high)) (filter test (range_with_len (from + 1) n)) → Each (λ m. (low ≤ m) × (m < high)) (cond b (from ∷ filter test (range_with_len (from + 1) n)) (filter test (range_with_len (from + 1) n)))
    by true ih = ((l, omega arith), ih)
    by false ih = ih

all_rising : (test : ℕ → Bool) (a n high : ℕ) → a + n ≤ high → Each (IsRising high) (pairs (filter test (range_with_len a n)))
all_rising test a zero high h = tt
all_rising test a (suc n) high h = by (test a) (all_rising test (a + 1) n high (omega arith))
  where
    rest : List ℕ
    rest = filter test (range_with_len (a + 1) n)

    stronger : (ms : List ℕ) → Each (λ m. (a + 1 ≤ m) × (m < high)) ms → Each (λ m. (a < m) × (m < high)) ms
    stronger [] e = tt
    stronger (m ∷ ms) e = let l = e.0.0 in ((omega (arith, l), e.0.1), stronger ms e.1)

    by : (b : Bool) → Each (IsRising high) (pairs rest) → Each (IsRising high) (pairs (cond b (a ∷ rest) rest))
    by true ih = each_both (IsRising high) (map (λ (m : ℕ). record { first = a; second = m }) rest) (pairs rest) (paired a high rest (stronger rest (kept_between test (a + 1) high (a + 1) n (omega arith) (omega arith)))) ih
    by false ih = ih

pub pair_rising : (p : Program) (rs : List DataRegion) (c : ℕ) (q : Pair) → region_pair p rs c ≡ Some q → IsRising (length rs) q
pair_rising p rs c q e =
    cheapest_is (IsRising (length rs)) (region_cost p rs) (pairs (regions_used rs c)) q
    (all_rising (λ r. is_user c (region_at rs r)) 0 (length rs) (length rs) (omega arith)) e

-- ---- where each region stands then

-- a region that stays: where it stood
pub record Stood (rs : List DataRegion) (q : Pair) (k : ℕ) : Type 0 where
  pub place : ℕ
  pub below : place < length rs
  pub not_first : place ≡ q.first → ⊥
  pub not_second : place ≡ q.second → ⊥
  pub moved : ((place < q.second) × (k ≡ place)) ⊎ ((q.second < place) × (k + 1 ≡ place))
  pub is : region_at (with_joined_region rs q) k ≡ region_at rs place

-- and where it stands then
pub record Stands (rs : List DataRegion) (q : Pair) (j : ℕ) : Type 0 where
  pub place : ℕ
  pub below : place < length (with_joined_region rs q)
  pub is : region_at (with_joined_region rs q) place ≡ region_at rs j

module _ (rs : List DataRegion) (q : Pair) (rising : IsRising (length rs) q) where
  abbrev both : DataRegion
  both = joined_region (region_at rs q.first) (region_at rs q.second)

  abbrev then_are : List DataRegion
  then_are = with_joined_region rs q

  as_many : length (set rs q.first both) ≡ length rs
  as_many = length-set rs q.first both

  pub one_fewer : length then_are + 1 ≡ length rs
  one_fewer =
      let low = rising.1 in
      let same = as_many in
      let less = length-remove (set rs q.first both) q.second (omega (arith, low, same)) in
      omega (arith, less, same)

  below_it : (k : ℕ) → k < q.second → region_at then_are k ≡ region_at (set rs q.first both) k
  below_it k l = let high = rising.1 in let same = as_many in get_or-remove_below (set rs q.first both) q.second no_region k l (omega (arith, high, same))

  above_it : (k : ℕ) → q.second ≤ k → region_at then_are k ≡ region_at (set rs q.first both) (k + 1)
  above_it k l = let high = rising.1 in let same = as_many in get_or-remove_above (set rs q.first both) q.second no_region k l (omega (arith, high, same))

  pub join_is : region_at then_are q.first ≡ both
  join_is =
      let low = rising.0 in
      let high = rising.1 in
      below_it q.first low ∙ get_or-set_same rs q.first both no_region (omega (arith, low, high))

  pub join_below : q.first < length then_are
  join_below = let low = rising.0 in let high = rising.1 in let fewer = one_fewer in omega (arith, low, high, fewer)

  abbrev From : ℕ → Type 0
  From k = (k ≡ q.first) ⊎ Stood rs q k

  pub from : (k : ℕ) → k < length then_are → From k
  from k l = ⊎_elim lower upper (cases_lt k q.second)
    where
      lower : k < q.second → From k
      lower m = ⊎_elim (λ e. inl e) other (cases_eq k q.first)
        where
          other : (k ≡ q.first → ⊥) → From k
          other d =
              let fewer = one_fewer in
              inr (record {
                place = k;
                below = omega (arith, l, fewer);
                not_first = d;
                not_second = λ e. omega (arith, e, m);
                moved = inl (m, refl);
                is = below_it k m ∙ get_or-set_other rs q.first k both no_region d;
              })

      upper : q.second ≤ k → From k
      upper m =
          let low = rising.0 in
          let fewer = one_fewer in
          let far : k + 1 ≡ q.first → ⊥ = λ e. omega (arith, e, m, low) in
          inr (record {
            place = k + 1;
            below = omega (arith, l, fewer);
            not_first = far;
            not_second = λ e. omega (arith, e, m);
            moved = inr (omega (arith, m), refl);
            is = above_it k m ∙ get_or-set_other rs q.first (k + 1) both no_region far;
          })

  pub to : (j : ℕ) → j < length rs → (j ≡ q.first → ⊥) → (j ≡ q.second → ⊥) → Stands rs q j
  to j l d e = ⊎_elim lower upper (cases_lt j q.second)
    where
      lower : j < q.second → Stands rs q j
      lower m =
          let high = rising.1 in
          let fewer = one_fewer in
          record { place = j; below = omega (arith, m, high, fewer); is = below_it j m ∙ get_or-set_other rs q.first j both no_region d }

      upper : q.second ≤ j → Stands rs q j
      upper m =
          let fewer = one_fewer in
          let behind : q.second < j = ⊎_elim (λ w. absurd (e w)) (λ w. ⊎_elim (λ lt. absurd (omega (arith, lt, m))) (λ gt. gt) w) (order j q.second) in
          let back : j - 1 + 1 ≡ j = omega (arith, behind) in
          record {
            place = j - 1;
            below = omega (arith, l, fewer, behind);
            is = above_it (j - 1) (omega (arith, behind)) ∙ (ap (λ k. region_at (set rs q.first both) k) back ∙ get_or-set_other rs q.first j both no_region d);
          }
        where
          order : (a b : ℕ) → (a ≡ b) ⊎ ((a < b) ⊎ (b < a))
          order a b = ⊎_elim (λ h. inl h) (λ h. ⊎_elim (λ lt. inr (inl lt)) (λ le. inr (inr (above a b le h))) (cases_lt a b)) (cases_eq a b)
            where
              above : (a b : ℕ) → b ≤ a → (a ≡ b → ⊥) → b < a
              above a b le h = ⊎_elim (λ lt. lt) (λ ge. absurd (h (omega (arith, le, ge)))) (cases_lt b a)

-- ---- what holds of regions

abbrev pub EachRegion : (DataRegion → Type 0) → List DataRegion → Type 0
EachRegion Q rs = (r : ℕ) → r < length rs → Q (region_at rs r)

abbrev pub SomeRegion : (DataRegion → Type 0) → List DataRegion → Type 0
SomeRegion Q rs = (r : ℕ) × (r < length rs) × Q (region_at rs r)

-- no global is in two of them
abbrev pub ShareNoGlobal : List DataRegion → Type 0
ShareNoGlobal rs = (r s x : ℕ) → r < length rs → s < length rs → has (region_at rs r).globals x ≡ true → has (region_at rs s).globals x ≡ true → r ≡ s

-- what holds of both holds of the joined one; or what holds of one of them
abbrev pub StaysOfBoth : (DataRegion → Type 0) → Type 0
StaysOfBoth Q = (a b : DataRegion) → Q a → Q b → Q (joined_region a b)

abbrev pub StaysOfOne : (DataRegion → Type 0) → Type 0
StaysOfOne Q = (a b : DataRegion) → (Q a ⊎ Q b) → Q (joined_region a b)

module _ (rs : List DataRegion) (q : Pair) (rising : IsRising (length rs) q) where
  each_joined : (Q : DataRegion → Type 0) → StaysOfBoth Q → EachRegion Q rs → EachRegion Q (with_joined_region rs q)
  each_joined Q s e k l = ⊎_elim joint (λ o. subst Q (sym o.is) (e o.place o.below)) (from rs q rising k l)
    where
      joint : k ≡ q.first → Q (region_at (with_joined_region rs q) k)
      joint i =
          let low = rising.0 in
          let high = rising.1 in
          subst Q (sym (ap (λ j. region_at (with_joined_region rs q) j) i ∙ join_is rs q rising))
          (s (region_at rs q.first) (region_at rs q.second) (e q.first (omega (arith, low, high))) (e q.second high))

  some_joined : (Q : DataRegion → Type 0) → StaysOfOne Q → SomeRegion Q rs → SomeRegion Q (with_joined_region rs q)
  some_joined Q s e = ⊎_elim one (λ d. ⊎_elim two (other d) (cases_eq e.0 q.second)) (cases_eq e.0 q.first)
    where
      joint : Q (region_at rs q.first) ⊎ Q (region_at rs q.second) → SomeRegion Q (with_joined_region rs q)
      joint h = (q.first, join_below rs q rising, subst Q (sym (join_is rs q rising)) (s (region_at rs q.first) (region_at rs q.second) h))

      one : e.0 ≡ q.first → SomeRegion Q (with_joined_region rs q)
      one i = joint (inl (subst (λ j. Q (region_at rs j)) i e.2))

      two : e.0 ≡ q.second → SomeRegion Q (with_joined_region rs q)
      two i = joint (inr (subst (λ j. Q (region_at rs j)) i e.2))

      other : (e.0 ≡ q.first → ⊥) → (e.0 ≡ q.second → ⊥) → SomeRegion Q (with_joined_region rs q)
      other d f = let o = to rs q rising e.0 e.1 d f in (o.place, o.below, subst Q (sym o.is) e.2)

  -- the joined one has what one of the two has
  joint_has : (x : ℕ) → has (both rs q rising).globals x ≡ true → (has (region_at rs q.first).globals x ≡ true) ⊎ (has (region_at rs q.second).globals x ≡ true)
  joint_has x h = or_cases (has (region_at rs q.first).globals x) (has (region_at rs q.second).globals x) (sym (has_union (region_at rs q.first).globals (region_at rs q.second).globals x) ∙ h)

  apart_joined : ShareNoGlobal rs → ShareNoGlobal (with_joined_region rs q)
  apart_joined a k m x l h e f = ⊎_elim left (λ o. ⊎_elim (right o) (both_stay o) (from rs q rising m h)) (from rs q rising k l)
    where
      -- the joined one and one that stays
      never : (i : ℕ) → i ≡ q.first → has (region_at (with_joined_region rs q) i).globals x ≡ true → (j : ℕ) → (o : Stood rs q j) → has (region_at (with_joined_region rs q) j).globals x ≡ true → ⊥
      never i s t j o u =
          let low = rising.0 in
          let high = rising.1 in
          let mine : has (region_at rs o.place).globals x ≡ true = subst (λ (r : DataRegion). has r.globals x ≡ true) o.is u in
          let his : has (both rs q rising).globals x ≡ true = subst (λ (r : DataRegion). has r.globals x ≡ true) (ap (λ z. region_at (with_joined_region rs q) z) s ∙ join_is rs q rising) t in
          ⊎_elim (λ y. o.not_first (a o.place q.first x o.below (omega (arith, low, high)) mine y)) (λ y. o.not_second (a o.place q.second x o.below high mine y)) (joint_has x his)

      left : k ≡ q.first → k ≡ m
      left i = ⊎_elim (λ j. i ∙ sym j) (λ o. absurd (never k i e m o f)) (from rs q rising m h)

      right : Stood rs q k → m ≡ q.first → k ≡ m
      right o i = absurd (never m i f k o e)

      both_stay : Stood rs q k → Stood rs q m → k ≡ m
      both_stay o u =
          let same = a o.place u.place x o.below u.below (subst (λ (r : DataRegion). has r.globals x ≡ true) o.is e) (subst (λ (r : DataRegion). has r.globals x ≡ true) u.is f) in
          places o.place u.place o.moved u.moved same
        where
          places : (i j : ℕ) → ((i < q.second) × (k ≡ i)) ⊎ ((q.second < i) × (k + 1 ≡ i)) → ((j < q.second) × (m ≡ j)) ⊎ ((q.second < j) × (m + 1 ≡ j)) → i ≡ j → k ≡ m
          places i j (inl c) (inl d) s = c.1 ∙ (s ∙ sym d.1)
          places i j (inl c) (inr d) s = absurd (let y = c.0 in let z = d.0 in omega (arith, y, z, s))
          places i j (inr c) (inl d) s = absurd (let y = c.0 in let z = d.0 in omega (arith, y, z, s))
          places i j (inr c) (inr d) s = let y = c.1 in let z = d.1 in omega (arith, y, z, s)

-- ---- joins of a graph

each_next : (Q : DataRegion → Type 0) → StaysOfBoth Q → (p : Program) (slots : ℕ) (g h : Graph) → next p slots g ≡ Some h → EachRegion Q g.regions → EachRegion Q h.regions
each_next Q s p slots g h e =
    by_next p (λ a b. EachRegion Q a.regions → EachRegion Q b.regions) (λ a q c f. each_joined a.regions q (pair_rising p a.regions c q f) Q s) (λ a q c f x. x) slots g h e

pub each_all : (Q : DataRegion → Type 0) → StaysOfBoth Q → (p : Program) (slots : ℕ) (g h : Graph) → Merges p slots g h → EachRegion Q g.regions → EachRegion Q h.regions
each_all Q s p slots g h stays x = x
each_all Q s p slots g k (joins {h = h} e m) x = each_all Q s p slots h k m (each_next Q s p slots g h e x)

some_next : (Q : DataRegion → Type 0) → StaysOfOne Q → (p : Program) (slots : ℕ) (g h : Graph) → next p slots g ≡ Some h → SomeRegion Q g.regions → SomeRegion Q h.regions
some_next Q s p slots g h e =
    by_next p (λ a b. SomeRegion Q a.regions → SomeRegion Q b.regions) (λ a q c f. some_joined a.regions q (pair_rising p a.regions c q f) Q s) (λ a q c f x. x) slots g h e

pub some_all : (Q : DataRegion → Type 0) → StaysOfOne Q → (p : Program) (slots : ℕ) (g h : Graph) → Merges p slots g h → SomeRegion Q g.regions → SomeRegion Q h.regions
some_all Q s p slots g h stays x = x
some_all Q s p slots g k (joins {h = h} e m) x = some_all Q s p slots h k m (some_next Q s p slots g h e x)

apart_next : (p : Program) (slots : ℕ) (g h : Graph) → next p slots g ≡ Some h → ShareNoGlobal g.regions → ShareNoGlobal h.regions
apart_next p slots g h e =
    by_next p (λ a b. ShareNoGlobal a.regions → ShareNoGlobal b.regions) (λ a q c f. apart_joined a.regions q (pair_rising p a.regions c q f)) (λ a q c f x. x) slots g h e

pub apart_all : (p : Program) (slots : ℕ) (g h : Graph) → Merges p slots g h → ShareNoGlobal g.regions → ShareNoGlobal h.regions
apart_all p slots g h stays x = x
apart_all p slots g k (joins {h = h} e m) x = apart_all p slots h k m (apart_next p slots g h e x)

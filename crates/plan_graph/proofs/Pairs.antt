-- What holds of the pair that is chosen: its places stand in the list, the first before the second.
use Rattle.std.proofs.Common.{◌≡◌, ℕ, zero, suc, ◌<◌, ◌≤◌, ◌+◌, Bool, true, false, List, [], ◌∷◌, cond, nat_lt, length, Some, IfSome, option_map, sym, subst, arith}
use Rattle.std.specs.List.{All, best_of, range_with_len}
use Rattle.std.proofs.lemmas.List.Elements.{All-nil, All-head, All-tail, All-append, All-map, All-weaker, All-filter, All-from_get_or}
use Rattle.std.proofs.lemmas.List.FromFn.{length-range_with_len, get_or-range_with_len}
use Rattle.ir_model.specs.Resolved.{Program}
use Rattle.plan_model.specs.declared.graph.DataRegion.{DataRegion}
use Rattle.plan_model.specs.declared.graph.Cover.{Cover}
use Rattle.plan_model.specs.Choices.{Pair, pairs, cheapest}
use Rattle.plan_model.specs.Lists.{numbers_below}
use Rattle.plan_model.specs.Regions.{is_user, region_at, regions_used}
use Rattle.plan_graph.specs.declared.choices.Choice.{Choice}
use Rattle.plan_graph.specs.Choices.{pair_of}
use Rattle.plan_model.specs.Merging.{region_cost, region_pair, cover_cost, cover_pair}
use Rattle.plan_model.proofs.Numbers.{all_below}

-- what holds of all holds of the cheapest
module _ {X : Type 0} (P : X → Type 0) (cost : X → ℕ) where
  best_among : (x : X) (xs : List X) → P x → All P xs → P (best_of (λ y best. nat_lt (cost y) (cost best)) x xs)
  best_among x [] h hs = h
  best_among x (y ∷ xs) h hs = best_among (cond (nat_lt (cost y) (cost x)) y x) xs (pick (nat_lt (cost y) (cost x))) (All-tail P y xs hs)
    where
      pick : (t : Bool) → P (cond t y x)
      pick true = All-head P y xs hs
      pick false = h

  pub cheapest_among : (xs : List X) → All P xs → IfSome (cheapest cost xs) P
  cheapest_among [] h = Prim.tt
  cheapest_among (x ∷ xs) h = best_among x xs (All-head P x xs h) (All-tail P x xs h)

-- both members of a pair are numbers of the list
module _ (Q : ℕ → Type 0) where
  abbrev Both : Pair → Type 0
  Both q = Q q.first × Q q.second

  pub pairs_among : (ns : List ℕ) → All Q ns → All Both (pairs ns)
  pairs_among [] h = All-nil Both
  pairs_among (n ∷ ns) h =
      let front : All (λ m. Q n × Q m) ns = All-weaker Q (λ m. Q n × Q m) (λ m k. (All-head Q n ns h, k)) ns (All-tail Q n ns h) in
      All-append Both _ (pairs ns) (All-map Both (λ (m : ℕ). let q : Pair = record { first = n; second = m } in q) ns front) (pairs_among ns (All-tail Q n ns h))

-- ---- two data regions

pub record AreRegions (rs : List DataRegion) (q : Pair) : Type 0 where
  pub first : q.first < length rs
  pub second : q.second < length rs

pub used_below : (rs : List DataRegion) (c : ℕ) → All (λ r. r < length rs) (regions_used rs c)
used_below rs c = All-filter (λ r. is_user c (region_at rs r)) (λ r. r < length rs) (numbers_below (length rs)) (all_below (length rs))

pub region_pair_among : (p : Program) (rs : List DataRegion) (c : ℕ) → IfSome (region_pair p rs c) (AreRegions rs)
region_pair_among p rs c =
    cheapest_among (AreRegions rs) (region_cost p rs) (pairs (regions_used rs c))
    (All-weaker (Both (λ r. r < length rs)) (AreRegions rs) (λ q h. record { first = h.0; second = h.1 }) (pairs (regions_used rs c)) (pairs_among (λ r. r < length rs) (regions_used rs c) (used_below rs c)))

-- ---- two covers

pub record AreCovers (low high : ℕ) (q : Pair) : Type 0 where
  pub from : low ≤ q.first
  pub rising : q.first < q.second
  pub below : q.second < high

ranged : (a n : ℕ) → All (λ m. (a ≤ m) × (m < a + n)) (range_with_len a n)
ranged a n = All-from_get_or (λ m. (a ≤ m) × (m < a + n)) (range_with_len a n) 0 (λ i l. let size = length-range_with_len a n in let small : i < n = omega arith in let e = get_or-range_with_len a n i 0 small in (omega arith, omega arith))

rising_pairs : (a n : ℕ) → All (AreCovers a (a + n)) (pairs (range_with_len a n))
rising_pairs a zero = All-nil (AreCovers a (a + zero))
rising_pairs a (suc n) =
    All-append (AreCovers a (a + suc n)) _ (pairs (range_with_len (a + 1) n))
    (All-map (AreCovers a (a + suc n)) (λ (m : ℕ). let q : Pair = record { first = a; second = m } in q) (range_with_len (a + 1) n)
    (All-weaker (λ m. (a + 1 ≤ m) × (m < a + 1 + n)) (λ m. let q : Pair = record { first = a; second = m } in AreCovers a (a + suc n) q) (λ m h. record { from = omega arith; rising = omega (arith, h.0); below = omega (arith, h.1) }) (range_with_len (a + 1) n) (ranged (a + 1) n)))
    (All-weaker (AreCovers (a + 1) (a + 1 + n)) (AreCovers a (a + suc n)) (λ q h. record { from = omega (arith, h.from); rising = h.rising; below = omega (arith, h.below) }) (pairs (range_with_len (a + 1) n)) (rising_pairs (a + 1) n))

pub cover_pair_among : (cs : List Cover) → IfSome (cover_pair cs) (AreCovers 0 (length cs))
cover_pair_among cs =
    let size : 0 + length cs ≡ length cs = omega arith in
    cheapest_among (AreCovers 0 (length cs)) (cover_cost cs) (pairs (numbers_below (length cs)))
    (subst (λ n. All (AreCovers 0 n) (pairs (numbers_below (length cs)))) size (rising_pairs 0 (length cs)))

-- ---- by what the code has chosen

pub regions_chosen : (p : Program) (rs : List DataRegion) (c : ℕ) (choice : Choice) → option_map pair_of (Some choice) ≡ region_pair p rs c → AreRegions rs (pair_of choice)
regions_chosen p rs c choice e = subst (λ o. IfSome o (AreRegions rs)) (sym e) (region_pair_among p rs c)

pub covers_chosen : (cs : List Cover) (choice : Choice) → option_map pair_of (Some choice) ≡ cover_pair cs → AreCovers 0 (length cs) (pair_of choice)
covers_chosen cs choice e = subst (λ o. IfSome o (AreCovers 0 (length cs))) (sym e) (cover_pair_among cs)

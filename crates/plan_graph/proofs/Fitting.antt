-- The join of two covers that fit 32 bits holds both and fits too, and each join leaves a graph that fits with fewer parts.
use Rattle.std.proofs.Common.{◌≡◌, ℕ, zero, suc, ◌<◌, ◌≤◌, ◌+◌, ◌-◌, ◌*◌, ◌/◌, ◌^◌, Bool, true, false, not, cond, List, [], ◌∷◌, length, get_or, filter, map, nat_lt, nat_le, nat_eq, Option, Some, None, refl, sym, ap, subst, ◌∙◌, arith}
use Rattle.std.specs.Prelude.{find, unwrap_or, option_map, IfSome}
use Rattle.std.specs.List.{All, range_with_len}
use Rattle.std.proofs.Math.Nat.{mul-le-mul_left}
use Rattle.std.proofs.lemmas.Nat.{pow-add, pow_pos}
use Rattle.std.proofs.lemmas.Bool.{le-leb, eqb-true, eq-eqb, cases_lt, and_from as both}
use Rattle.std.proofs.lemmas.List.Elements.{All-cons, All-nil, All-filter, All-set, All-get_or, All-map, All-weaker}
use Rattle.std.proofs.lemmas.List.{get_or_past}
use mathlib.Core.Logic.{⊎_elim}
use Rattle.ir_model.specs.Resolved.{Program, no_window}
use Rattle.plan_model.specs.declared.needs.Needs.{Needs}
use Rattle.plan_model.specs.declared.groups.Groups.{Groups}
use Rattle.plan_model.specs.declared.graph.Cover.{Cover}
use Rattle.plan_model.specs.declared.graph.Graph.{Graph}
use Rattle.plan_model.specs.declared.graph.Final.{Final}
use Rattle.plan_model.specs.Choices.{Pair}
use Rattle.plan_model.specs.Groups.{uses}
use Rattle.plan_model.specs.Covers.{least_power, end_of, is_inside, lowest, highest, joined_size, joined, no_cover, cover_at, with_cover}
use Rattle.plan_model.specs.InitialGraph.{cover_of, covers_of, initial_graph}
use Rattle.plan_model.specs.Merging.{first_too_rich, region_pair, cover_pair, covers_at, with_joined_regions, with_joined_cover, with_joined_covers, relieved_if, relieved, next}
use Rattle.plan_model.specs.FinalGraph.{IsMerged}
use Rattle.plan_model.specs.Lists.{numbers_below}
use Rattle.plan_policies.proofs.Below.{all_in_order}
use Rattle.plan_graph.specs.Fitting.{CoverFits, Fits, WindowFits, WindowsFit}
use Rattle.plan_graph.proofs.Ending.{Comes, a_final}
use Rattle.plan_graph.proofs.FewerCovers.{fewer_covers}
use Rattle.plan_graph.proofs.Pairs.{AreRegions, AreCovers, region_pair_among, cover_pair_among}
use Rattle.plan_graph.proofs.Steps.{fewer_regions, fewer_parts}
use Rattle.plan_model.proofs.Numbers.{all_below}

-- an aligned range in which the first and the last address lie holds both covers
pub inside_joined : (c d : Cover) (n : ℕ) → 0 < n → lowest c d / n ≡ highest c d / n
    → (is_inside c (record { base = lowest c d / n * n; size = n }) ≡ true) × (is_inside d (record { base = lowest c d / n * n; size = n }) ≡ true)
inside_joined c d n some e =
    let same : n * (lowest c d / n) ≡ n * (highest c d / n) = ap (λ x. n * x) e in (
      both (nat_le (lowest c d / n * n) c.base) (nat_le (end_of c) (lowest c d / n * n + n)) (le-leb _ _ (omega arith)) (le-leb _ _ (omega arith)),
      both (nat_le (lowest c d / n * n) d.base) (nat_le (end_of d) (lowest c d / n * n + n)) (le-leb _ _ (omega arith)) (le-leb _ _ (omega arith)),
    )

-- ---- the least power that passes does

record IsPower (test : ℕ → Bool) (n : ℕ) : Type 0 where
  exponent : ℕ
  small : exponent ≤ 32
  is : n ≡ 2 ^ exponent
  passes : test n ≡ true

some_found : (test : ℕ → Bool) (a n k : ℕ) → a ≤ k → k < a + n → a + n ≤ 33 → test (2 ^ k) ≡ true → IsPower test (unwrap_or (find test (map (λ k. 2 ^ k) (range_with_len a n))) (2 ^ 32))
some_found test a zero k l m h p = absurd (omega arith)
some_found test a (suc n) k l m h p =
    by (test (2 ^ a)) refl (λ lt. some_found test (a + 1) n k (omega arith) (omega arith) (omega arith) p)
  where
    rest : Option ℕ
    rest = find test (map (λ k. 2 ^ k) (range_with_len (a + 1) n))

    by : (b : Bool) → test (2 ^ a) ≡ b → (a < k → IsPower test (unwrap_or (find test (map (λ k. 2 ^ k) (range_with_len (a + 1) n))) (2 ^ 32)))
        → IsPower test (unwrap_or (cond b (Some (2 ^ a)) (find test (map (λ k. 2 ^ k) (range_with_len (a + 1) n)))) (2 ^ 32))
    by true e ih = record { exponent = a; small = omega arith; is = refl; passes = e }
    by false e ih = ⊎_elim ih (λ le. let s : k ≡ a = omega arith in let wrong : true ≡ false = sym p ∙ (ap (λ i. test (2 ^ i)) s ∙ e) in cc) (cases_lt a k)

least_passes : (test : ℕ → Bool) → test (2 ^ 32) ≡ true → IsPower test (least_power test)
unfolding least_power
least_passes test p = some_found test 5 28 32 (omega arith) (omega arith) (omega arith) p

-- ---- the join of two that fit

abbrev one_range : Cover → Cover → ℕ → Bool
one_range c d n = nat_eq (lowest c d / n) (highest c d / n)

whole : (c d : Cover) → CoverFits c → CoverFits d → one_range c d (2 ^ 32) ≡ true
whole c d h k =
    let l = h.base in
    let e = h.end in
    let m = k.base in
    let f = k.end in
    let low : lowest c d / 2 ^ 32 ≡ 0 = omega arith in
    let high : highest c d / 2 ^ 32 ≡ 0 = omega arith in
    eq-eqb (lowest c d / 2 ^ 32) (highest c d / 2 ^ 32) (low ∙ sym high)

pub record JoinsBoth (c d j : Cover) : Type 0 where
  pub one : is_inside c j ≡ true
  pub other : is_inside d j ≡ true
  pub fits : CoverFits j

within : (q n m low : ℕ) → 0 < n → low < m * n → q * n ≤ low → q * n + n ≤ m * n
within q n m low s l le =
    ⊎_elim (λ lt. let more = mul-le-mul_left {m = suc q} {n = m} n lt in omega (arith, more)) (λ ge. let more = mul-le-mul_left {m = m} {n = q} n ge in absurd (omega (arith, more))) (cases_lt q m)

-- an aligned range of a power of two of bytes that begins within 32 bits ends there
range_fits : (k n low : ℕ) → k ≤ 32 → n ≡ 2 ^ k → low < 2 ^ 32 → (low / n * n < 2 ^ 32) × (low / n * n + n ≤ 2 ^ 32)
range_fits k n low small e l =
    let split : 2 ^ 32 ≡ 2 ^ (32 - k) * n = ap (λ i. 2 ^ i) (let s : 32 ≡ (32 - k) + k = omega arith in s) ∙ (pow-add 2 (32 - k) k ∙ ap (λ x. 2 ^ (32 - k) * x) (sym e)) in
    let some : 0 < n = subst (λ x. 0 < x) (sym e) (pow_pos k) in
    let below : low < 2 ^ (32 - k) * n = subst (λ x. low < x) split l in
    let part : low / n * n ≤ low = omega arith in
    (omega arith, subst (λ x. low / n * n + n ≤ x) (sym split) (within (low / n) n (2 ^ (32 - k)) low some below part))

pub joined_holds : (c d : Cover) → CoverFits c → CoverFits d → JoinsBoth c d (joined c d)
unfolding joined
joined_holds c d h k = by (joined_size c d) (least_passes (one_range c d) (whole c d h k))
  where
    by : (n : ℕ) → IsPower (one_range c d) n → JoinsBoth c d (record { base = lowest c d / n * n; size = n })
    by n power =
        let some : 0 < n = subst (λ x. 0 < x) (sym power.is) (pow_pos power.exponent) in
        let inside = inside_joined c d n some (eqb-true (lowest c d / n) (highest c d / n) power.passes) in
        let l = h.base in
        let low : lowest c d < 2 ^ 32 = omega arith in
        let fits = range_fits power.exponent n (lowest c d) power.small power.is low in
        record { one = inside.0; other = inside.1; fits = record { base = fits.0; end = fits.1 } }

-- ---- graphs

all_with : (cs : List Cover) (d : Cover) → All CoverFits cs → CoverFits d → All CoverFits (with_cover cs d)
all_with cs d h k =
    all_in_order CoverFits (λ (a b : Cover). nat_lt a.base b.base) (d ∷ filter (λ (c : Cover). not (is_inside c d)) cs)
    (All-cons CoverFits d (filter (λ (c : Cover). not (is_inside c d)) cs) k (All-filter (λ (c : Cover). not (is_inside c d)) CoverFits cs h))

covers_fit : (g : Graph) (c : ℕ) → Fits g → All CoverFits (covers_at g c)
covers_fit g c h = ⊎_elim (λ lt. All-get_or (λ (cs : List Cover). All CoverFits cs) g.covers c [] lt h) (λ le. subst (All CoverFits) (sym (get_or_past g.covers c [] le)) (All-nil CoverFits)) (cases_lt c (length g.covers))

cover_fits : (cs : List Cover) (i : ℕ) → i < length cs → All CoverFits cs → CoverFits (cover_at cs i)
cover_fits cs i l h = All-get_or CoverFits cs i no_cover l h

module _ (p : Program) (slots : ℕ) (g : Graph) (fits : Fits g) where
  regions_come : (c : ℕ) (q : Pair) → AreRegions g.regions q → Comes g (with_joined_regions g q)
  regions_come c q h = record { fits = fits; fewer = fewer_regions g q h }

  covers_come : (c : ℕ) (q : Pair) → AreCovers 0 (length (covers_at g c)) q → Comes g (with_joined_covers g c q)
  covers_come c q h =
      let low = h.rising in
      let high = h.below in
      let small : q.first < length (covers_at g c) = omega arith in
      let all = covers_fit g c fits in
      let held = joined_holds (cover_at (covers_at g c) q.first) (cover_at (covers_at g c) q.second) (cover_fits (covers_at g c) q.first small all) (cover_fits (covers_at g c) q.second high all) in
      let new : List Cover = with_joined_cover (covers_at g c) q in
      let less : length new < length (covers_at g c) = fewer_covers (covers_at g c) q (joined (cover_at (covers_at g c) q.first) (cover_at (covers_at g c) q.second)) low high held.one held.other in
      let there : c < length g.covers = ⊎_elim (λ lt. lt) (λ le. absurd (none_there le high)) (cases_lt c (length g.covers)) in
      record {
        fits = All-set (λ (cs : List Cover). All CoverFits cs) g.covers c new (all_with (covers_at g c) (joined (cover_at (covers_at g c) q.first) (cover_at (covers_at g c) q.second)) all held.fits) fits;
        fewer = fewer_parts g c new there less;
      }
    where
      none_there : length g.covers ≤ c → q.second < length (covers_at g c) → ⊥
      none_there le high = let none = ap length (get_or_past g.covers c [] le) in omega arith

  step_comes : (o : Option ℕ) → IfSome (relieved_if p g o) (Comes g)
  step_comes None = Prim.tt
  step_comes (Some c) = by (region_pair p g.regions c) (region_pair_among p g.regions c)
    where
      covered : (r : Option Pair) → IfSome r (AreCovers 0 (length (covers_at g c))) → IfSome (option_map (with_joined_covers g c) r) (Comes g)
      covered None h = Prim.tt
      covered (Some q) h = covers_come c q h

      by : (r : Option Pair) → IfSome r (AreRegions g.regions) → IfSome (relieved p g c r) (Comes g)
      by None h = covered (cover_pair (covers_at g c)) (cover_pair_among (covers_at g c))
      by (Some q) h = regions_come c q h

  pub next_comes : IfSome (next p slots g) (Comes g)
  unfolding next
  next_comes = step_comes (first_too_rich slots g)

-- each graph that fits comes to an end
pub final_there : (p : Program) (slots : ℕ) (g : Graph) → Fits g → (f : Final) × IsMerged p slots g f
final_there p slots g fits = a_final p slots (λ h k. next_comes p slots h k) g fits

-- the initial graph fits where windows do
pub initial_fits : (p : Program) (n : Needs) (g : Groups) → WindowsFit p → Fits (initial_graph p n g)
unfolding initial_graph
initial_fits p n g h = All-map (λ (cs : List Cover). All CoverFits cs) (covers_of p n g) (numbers_below g.count) (λ k d l. each (get_or (numbers_below g.count) k d))
  where
    window : (q : ℕ) → q < length p.periphs → CoverFits (cover_of p q)
    window q l = let w = All-get_or WindowFits p.periphs q no_window l h in record { base = w.base; end = w.end }

    each : (c : ℕ) → All CoverFits (covers_of p n g c)
    each c =
        all_in_order CoverFits (λ (a b : Cover). nat_lt a.base b.base) (map (cover_of p) (filter (uses n g c) (numbers_below (length p.periphs))))
        (All-map CoverFits (cover_of p) (filter (uses n g c) (numbers_below (length p.periphs)))
        (All-weaker (λ q. q < length p.periphs) (λ q. CoverFits (cover_of p q)) window (filter (uses n g c) (numbers_below (length p.periphs)))
        (All-filter (uses n g c) (λ q. q < length p.periphs) (numbers_below (length p.periphs)) (all_below (length p.periphs)))))

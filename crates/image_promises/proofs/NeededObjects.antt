-- One of its functions needs what a compartment may write, or its regions expose it.
use Rattle.std.proofs.Common.{◌≡◌, ℕ, zero, suc, ◌<◌, ◌≤◌, ◌+◌, ◌⊎◌, inl, inr, Bool, true, false, not, ◌&&◌, cond, List, [], ◌∷◌, length, map, filter, get_or, position, nat_eq, nat_lt, nat_le, Option, Some, None, sum_by, refl, ap, sym, ◌∙◌, subst, arith, eqb-true}
use mathlib.Core.Logic.{⊎_elim}
use Rattle.std.specs.Int.{bit_at}
use Rattle.std.proofs.lemmas.Bool.{cases_lt, cases_eq, false≢true, and_parts, leb-true, and_from as both}
use Rattle.std.proofs.lemmas.List.{get_or_past}
use Rattle.std.proofs.lemmas.List.FromFn.{get_or-map-range_with_len, length-map-range_with_len}
use Rattle.std.proofs.lemmas.List.Folds.{list_any_at}
use Rattle.std.proofs.lemmas.List.Quantifiers.{position-Some}
use Rattle.std.proofs.lemmas.List.Sums.{sum_by-cons}
use Rattle.base_laws.proofs.Lists.{any_kept}
use Rattle.ir_model.specs.declared.object.ObjId.TheVariants.{Global, Periph, Local}
use Rattle.ir_model.specs.Resolve.{resolve}
use Rattle.ir_model.specs.Resolved.{Program, window_at}
use Rattle.ir_laws.specs.Limits.{WindowsLieApart, HasWindows}
use Rattle.plan_model.specs.declared.graph.Cover.{Cover}
use Rattle.plan_model.specs.declared.graph.Graph.{Graph}
use Rattle.plan_model.specs.declared.graph.DataRegion.{DataRegion}
use Rattle.plan_model.specs.declared.graph.Final.{Final}
use Rattle.plan_model.specs.Boards.{slots_of}
use Rattle.plan_model.specs.Lists.{has, numbers_below}
use Rattle.plan_model.specs.Groups.{writes, uses}
use Rattle.plan_model.specs.Exposure.{never_written, exposed_to_writes}
use Rattle.plan_model.specs.FinalGraph.{Merges, stays, joins}
use Rattle.plan_model.specs.InitialGraph.{cover_of, covers_of, mask_of, initial_graph}
use Rattle.plan_model.specs.Lending.{is_local}
use Rattle.plan_model.specs.Merging.{next}
use Rattle.plan_model.specs.Permission.{is_set, may_write}
use Rattle.plan_model.specs.Regions.{region_at, no_region, global_size, size_of}
use Rattle.image_promises.proofs.PlannedPremises.{PlannedPremises, planned_of, final_graph_of}
use Rattle.image_promises.proofs.Lists.{any_index, each_map, each_passing, below_all}
use Rattle.image_promises.proofs.CoverParts.{each_in_order}
use Rattle.base_laws.proofs.Lists.{each_at}
use Rattle.base_laws.specs.Lists.{Each}
use Rattle.plan_model.specs.Covers.{no_cover, end_of, is_inside}
use Rattle.std.proofs.Math.Pow.{pow_mono}
use Rattle.image_promises.proofs.Kept.{kept_final}
use Rattle.image_promises.specs.Needed.{IsExposed, IsBoundedByNeeds, PlannedPermissionsAreBounded}
use Rattle.image_promises.proofs.Bits.{zero_bit, mask_was_told}
use Rattle.image_promises.proofs.Masks.{mask_is}

-- a number of a list that passes a test is kept
has_kept : (test : ℕ → Bool) (ns : List ℕ) (x : ℕ) → has ns x ≡ true → test x ≡ true → has (filter test ns) x ≡ true
has_kept test ns x h t =
    let r = any_index (λ m. nat_eq m x) 0 ns h in
    let same = eqb-true (get_or ns r.0 0) x r.2 in
    any_kept (λ m. nat_eq m x) test ns ∙ list_any_at (λ m. test m && nat_eq m x) ns r.0 0 r.1 (both (test (get_or ns r.0 0)) (nat_eq (get_or ns r.0 0) x) (ap test same ∙ t) r.2)

-- a part of a sum is no more than the sum
one_of_sum : {X : Type 0} (size : X → ℕ) (xs : List X) (d : X) (k : ℕ) → k < length xs → size (get_or xs k d) ≤ sum_by size xs
one_of_sum size [] d k lt = absurd (omega (arith, lt))
one_of_sum size (x ∷ xs) d zero lt = let e = sum_by-cons size x xs in omega (arith, e)
one_of_sum size (x ∷ xs) d (suc k) lt = let e = sum_by-cons size x xs in let h = one_of_sum size xs d k (omega (arith, lt)) in omega (arith, e, h)

one_of_kept : {X : Type 0} (size : X → ℕ) (test : X → Bool) (xs : List X) (d : X) (k : ℕ) → k < length xs → test (get_or xs k d) ≡ true → size (get_or xs k d) ≤ sum_by size (filter test xs)
one_of_kept size test [] d k lt t = absurd (omega (arith, lt))
one_of_kept {X} size test (x ∷ xs) d zero lt t = by (test x) refl
  where
    by : (b : Bool) → test x ≡ b → size x ≤ sum_by size (cond b (x ∷ filter test xs) (filter test xs))
    by true e = let s = sum_by-cons size x (filter test xs) in omega (arith, s)
    by false e = absurd (false≢true (sym e ∙ t))
one_of_kept {X} size test (x ∷ xs) d (suc k) lt t = by (test x) (one_of_kept size test xs d k (omega (arith, lt)) t)
  where
    by : (b : Bool) → size (get_or xs k d) ≤ sum_by size (filter test xs) → size (get_or xs k d) ≤ sum_by size (cond b (x ∷ filter test xs) (filter test xs))
    by true h = let s = sum_by-cons size x (filter test xs) in omega (arith, s, h)
    by false h = h

module _ (planned : PlannedPremises) where
  open planned use {firmware as w, needs as n, final as f, board as b, is_planned as ok}

  abbrev p : Program
  p = resolve w

  -- ---- globals

  globals : (c x : ℕ) → may_write p n f c (Global x) ≡ true → (writes n f.groups c (Global x) ≡ true) ⊎ IsExposed w n f b c x
  unfolding may_write
  globals c x e =
      let r = any_index (λ (q : DataRegion). has q.writers c && has q.globals x) no_region f.regions e in
      let z = and_parts (has (region_at f.regions r.0).writers c) (has (region_at f.regions r.0).globals x) r.2 in
      by r.0 r.1 z.0 z.1 (writes n f.groups c (Global x)) refl
    where
      by : (k : ℕ) → k < length f.regions → has (region_at f.regions k).writers c ≡ true → has (region_at f.regions k).globals x ≡ true → (t : Bool) → writes n f.groups c (Global x) ≡ t
          → (writes n f.groups c (Global x) ≡ true) ⊎ IsExposed w n f b c x
      by k lt writer it true q = inl q
      by k lt writer it false q = inr (record {
        region = k;
        there = lt;
        writer = writer;
        unneeded = has_kept (λ y. not (writes n f.groups c (Global y))) (region_at f.regions k).globals x it (ap not q);
      })

  none : (c x : ℕ) → exposed_to_writes p n f.groups f.regions c ≡ 0 → 0 < global_size p x → may_write p n f c (Global x) ≡ true → writes n f.groups c (Global x) ≡ true
  none c x zero_bytes some e = ⊎_elim (λ q. q) (λ q. absurd (exposed q)) (globals c x e)
    where
      exposed : IsExposed w n f b c x → ⊥
      exposed q =
          let of_region = one_of_kept (λ (r : DataRegion). size_of p (never_written n f.groups c r)) (λ (r : DataRegion). has r.writers c) f.regions no_region q.region q.there q.writer in
          let r = any_index (λ m. nat_eq m x) 0 (never_written n f.groups c (region_at f.regions q.region)) q.unneeded in
          let same = eqb-true (get_or (never_written n f.groups c (region_at f.regions q.region)) r.0 0) x r.2 in
          let of_global = one_of_sum (global_size p) (never_written n f.groups c (region_at f.regions q.region)) 0 r.0 r.1 in
          let size = ap (global_size p) same in
          omega (arith, zero_bytes, some, of_region, of_global, size)

  -- ---- locals

  masks_past : (c : ℕ) → f.groups.count ≤ c → get_or f.masks c 0 ≡ 0
  unfolding initial_graph
  masks_past c le =
      let k = kept_final p (slots_of b) (initial_graph p n f.groups) f ok.final in
      let size = length-map-range_with_len (mask_of n f.groups) 0 f.groups.count in
      ap (λ ms. get_or ms c 0) k.masks ∙ get_or_past (map (mask_of n f.groups) (numbers_below f.groups.count)) c 0 (omega (arith, size, le))

  bit_needed : (c g l k : ℕ) → position (is_local g l) n.lendable ≡ Some k → bit_at (get_or f.masks c 0) k ≡ 1 → writes n f.groups c (Local g l) ≡ true
  bit_needed c g l k at e = ⊎_elim inner (λ le. absurd (zero_bit k (sym (ap (λ m. bit_at m k) (masks_past c le)) ∙ e))) (cases_lt c f.groups.count)
    where
      inner : c < f.groups.count → writes n f.groups c (Local g l) ≡ true
      inner lt =
          let r = mask_was_told n (λ x. writes n f.groups c (Local x.0 x.1)) k (sym (ap (λ m. bit_at m k) (mask_is (final_graph_of planned) c lt)) ∙ e) in
          let z = position-Some (is_local g l) n.lendable k (0, 0) at in
          let t = and_parts (nat_eq (get_or n.lendable k (0, 0)).0 g) (nat_eq (get_or n.lendable k (0, 0)).1 l) z.1 in
          let func = eqb-true _ _ t.0 in
          let local = eqb-true _ _ t.1 in
          sym (ap (λ a. writes n f.groups c (Local a (get_or n.lendable k (0, 0)).1)) func ∙ ap (λ a. writes n f.groups c (Local g a)) local) ∙ r.1

  locals : (c g l : ℕ) → may_write p n f c (Local g l) ≡ true → writes n f.groups c (Local g l) ≡ true
  unfolding may_write
  locals c g l e = by (position (is_local g l) n.lendable) refl e
    where
      by : (o : Option ℕ) → position (is_local g l) n.lendable ≡ o → is_set (get_or f.masks c 0) o ≡ true → writes n f.groups c (Local g l) ≡ true
      by None q s = absurd (false≢true s)
      by (Some k) q s = bit_needed c g l k q (eqb-true (bit_at (get_or f.masks c 0) k) 1 s)

  -- ---- peripherals, where nothing is joined

  module _ (windows : HasWindows p) where
    -- the window of a peripheral that the compartment needs
    abbrev IsUsed : ℕ → Cover → Type 0
    IsUsed c d = (r : ℕ) × (r < length p.periphs) × (uses n f.groups c r ≡ true) × (d ≡ cover_of p r)

    first_used : (c : ℕ) → Each (IsUsed c) (covers_of p n f.groups c)
    first_used c =
        each_in_order (IsUsed c) (λ (a b : Cover). nat_lt a.base b.base) (map (cover_of p) (filter (uses n f.groups c) (numbers_below (length p.periphs))))
        (each_map (IsUsed c) (cover_of p) (λ r. (r < length p.periphs) × (uses n f.groups c r ≡ true)) (filter (uses n f.groups c) (numbers_below (length p.periphs))) (λ r z. (r, z.0, z.1, refl))
        (each_passing (λ r. r < length p.periphs) (λ r. (r < length p.periphs) × (uses n f.groups c r ≡ true)) (uses n f.groups c) (numbers_below (length p.periphs)) (λ r lt t. (lt, t))
        (below_all 0 (length p.periphs) (length p.periphs) (omega arith))))

    first_covers : (c : ℕ) → Each (IsUsed c) (get_or (initial_graph p n f.groups).covers c [])
    unfolding initial_graph
    first_covers c = ⊎_elim inner outer (cases_lt c f.groups.count)
      where
        inner : c < f.groups.count → Each (IsUsed c) (get_or (map (covers_of p n f.groups) (numbers_below f.groups.count)) c [])
        inner l = subst (Each (IsUsed c)) (sym (get_or-map-range_with_len (covers_of p n f.groups) 0 f.groups.count c c [] l (let e : 0 + c ≡ c = omega arith in e))) (first_used c)

        outer : f.groups.count ≤ c → Each (IsUsed c) (get_or (map (covers_of p n f.groups) (numbers_below f.groups.count)) c [])
        outer l =
            let size = length-map-range_with_len (covers_of p n f.groups) 0 f.groups.count in
            subst (Each (IsUsed c)) (sym (get_or_past (map (covers_of p n f.groups) (numbers_below f.groups.count)) c [] (omega (arith, size, l)))) tt

    no_join : (g h : Graph) → Merges p (slots_of b) g h → next p (slots_of b) g ≡ None → h ≡ g
    no_join g _ stays e = refl
    no_join g h (joins {h = k} q m) e = absurd (let wrong : None ≡ Some k = sym e ∙ q in cc)

    positive : (q : ℕ) → q < length p.periphs → 0 < (window_at p q).size
    positive q lt =
        let z = (windows.each q lt).power in
        let e = z.3 in
        let k = pow_mono {i = 5} {j = z.0} z.1 in
        omega (arith, e, k)

    -- a window inside another is that one
    inside_is : (q r : ℕ) → q < length p.periphs → r < length p.periphs → is_inside (cover_of p q) (cover_of p r) ≡ true → q ≡ r
    inside_is q r lq lr e =
        ⊎_elim (λ z. z) (λ d.
        let a = and_parts (nat_le (window_at p r).base (window_at p q).base) (nat_le (end_of (cover_of p q)) (end_of (cover_of p r))) e in
        let lo = leb-true (window_at p r).base (window_at p q).base a.0 in
        let hi = leb-true (end_of (cover_of p q)) (end_of (cover_of p r)) a.1 in
        let some = positive q lq in
        absurd (⊎_elim (λ x. omega (arith, x, lo, hi, some)) (λ x. omega (arith, x, lo, hi, some)) (windows.apart q r lq lr d))) (cases_eq q r)

    periphs : next p (slots_of b) (initial_graph p n f.groups) ≡ None → (c q : ℕ) → q < length p.periphs → may_write p n f c (Periph q) ≡ true → uses n f.groups c q ≡ true
    unfolding may_write
    periphs e c q lt t =
        let same : f.covers ≡ (initial_graph p n f.groups).covers = ap (λ (x : Final). x.covers) ok.final.is ∙ ap (λ (g : Graph). g.covers) (no_join (initial_graph p n f.groups) ok.final.last ok.final.reached e) in
        let all = subst (λ (cs : List (List Cover)). Each (IsUsed c) (get_or cs c [])) (sym same) (first_covers c) in
        let r = any_index (is_inside (cover_of p q)) no_cover (get_or f.covers c []) t in
        let u = each_at (IsUsed c) (get_or f.covers c []) no_cover r.0 all r.1 in
        let is : q ≡ u.0 = inside_is q u.0 lt u.1 (sym (ap (λ (d : Cover). is_inside (cover_of p q) d) u.3) ∙ r.2) in
        subst (λ (x : ℕ). uses n f.groups c x ≡ true) (sym is) u.2

    bounded : IsBoundedByNeeds w n f b
    bounded = record { globals = globals; none = none; locals = locals; periphs = periphs }

pub permissions_are_bounded : WindowsLieApart → PlannedPermissionsAreBounded
permissions_are_bounded windows w n f b ok = bounded (planned_of ok) (windows w ok.typed)

-- What the slot of a data region holds: just what the region's block does. So of a compartment's slots one alone holds an address of a
-- region, and lets a writer store there.
use Rattle.std.proofs.Common.{◌≡◌, ◌≢◌, ℕ, ◌<◌, ◌≤◌, ◌+◌, ◌-◌, ◌*◌, ◌/◌, ◌%◌, ◌^◌, ◌↔◌, inl, inr, Bool, true, false, ◌&&◌, ◌||◌, List, [], ◌∷◌, ◌++◌, length, map, cond, nat_eq, nat_lt, refl, ap, sym, ◌∙◌, subst, eqb-true, pow_pos, lit<, arith, div-lt_iff_lt-mul}
use Rattle.std.specs.Prelude.{IsTrue}
use Rattle.std.specs.Int.{IsPowerOfTwo}
use Rattle.std.proofs.Math.Nat.{mul_comm}
use Rattle.std.proofs.Math.Pow.{pow_mono}
use Rattle.std.proofs.lemmas.Bool.{leb-true, ltb-false, cases_eq}
use Rattle.std.proofs.lemmas.Nat.Bits.{bit_at-zero}
use mathlib.Core.Logic.{⊎_elim}
use Rattle.machine_protection.specs.declared.region.Region.{Region}
use Rattle.machine_protection.specs.declared.region.Access.TheVariants.{Write}
use Rattle.machine_protection.specs.declared.words.Rights.{Rights}
use Rattle.machine_protection.specs.declared.words.Rights.TheVariants.{Ram, Background}
use Rattle.machine_protection.specs.Regions.{holds, allows, permission}
use Rattle.machine_protection.specs.RegionWords.{region_of}
use Rattle.machine_protection.specs.Configured.{closed_from, OpenEighthsAreHeld}
use Rattle.machine_protection.specs.Laws.{RegionsHoldTheirBlocks, RegionsGiveTheirRights}
use Rattle.base_laws.specs.Lists.{Each}
use Rattle.ir_model.specs.Resolve.{resolve}
use Rattle.ir_model.specs.Resolved.{Program}
use Rattle.plan_model.specs.declared.graph.Cover.{Cover}
use Rattle.plan_model.specs.declared.plan.Plan.{Plan}
use Rattle.plan_model.specs.declared.plan.Sizes.{Sizes}
use Rattle.plan_model.specs.declared.plan.Spot.{Spot}
use Rattle.plan_model.specs.Lists.{has}
use Rattle.plan_model.specs.Regions.{region_at}
use Rattle.plan_model.specs.Blocks.{block_size_for, has_eighths, open_eighths, subregions_out, region_bytes}
use Rattle.plan_model.specs.RamBlocks.{ForRegion}
use Rattle.plan_model.specs.Placement.{region_spot}
use Rattle.plan_model.specs.Slots.{SlotUse, data_rights, data_slot, cover_slot}
use Rattle.plan_layout_laws.specs.RamLaws.{HoldsAddress, open_bytes}
use Rattle.plan.specs.PlannedFirmwares.{plan, planned_sizes}
use Rattle.plan_model.proofs.Powers.{small_block}
use Rattle.image_promises.proofs.PlannedPremises.{PlannedPremises}
use Rattle.image_promises.proofs.Ranges.{IsUse, block_size_is, block_in, small}
use Rattle.image_promises.proofs.Bearing.{use_region, Bears, Lets, Harmless, Borne, here, there, Written, this, behind, covers_harmless}
use Rattle.image_promises.proofs.GlobalPlaces.{GlobalLaws}
use Rattle.base_laws.proofs.Powers.{smaller_exponent, power_split}

-- ---- the open eighths of a block

-- no more than eight of them begin before the end of bytes that have room
few_open : (size bytes k : ℕ) → size ≡ 2 ^ k → 256 ≤ size → bytes ≤ size → open_eighths size bytes ≤ 8
unfolding open_eighths
few_open size bytes k e large room =
    let eight = smaller_exponent 8 k (omega (arith, e, large)) in
    let m = power_split 8 k eight in
    let q = pow_pos (k - 8) in
    let whole : size ≡ 8 * (size / 8) = omega (arith, e, m) in
    let some : 0 < size / 8 = omega (arith, large) in
    at_most (size / 8) some (omega (arith, room, whole))
  where
    at_most : (d : ℕ) → 0 < d → bytes ≤ 8 * d → (bytes + (d - 1)) / d ≤ 8
    at_most d some l = let h = (div-lt_iff_lt-mul {k = d} {x = bytes + (d - 1)} {y = 9} some).1 (omega (arith, l, some)) in omega (arith, h)

module _ (held : RegionsHoldTheirBlocks) (opened : OpenEighthsAreHeld) (rights : Rights) (m a base size bytes : ℕ) (number : m < 16) (power : IsPowerOfTwo size) (least : 32 ≤ size) (most : size < 2 ^ 32)
    (whole : base % size ≡ 0) (room : bytes ≤ size) where
  abbrev count : ℕ
  count = open_eighths size bytes

  with_eighths : 256 ≤ size → (t : Bool) → nat_lt count 8 ≡ t → IsTrue (holds (region_of m base size (closed_from count) rights) a) ↔ ((base ≤ a) × (a < base + cond t (size / 8 * count) size))
  with_eighths large true e =
      let at_most = few_open size bytes power.0 power.1 large room in
      let h = opened m base size count rights number power large most whole at_most a in
      let same = mul_comm count (size / 8) in
      (λ t. let i = h.0 t in let high = i.1 in (i.0, omega (arith, high, same)), λ i. let high = i.1 in h.1 (i.0, omega (arith, high, same)))
  with_eighths large false e =
      let at_most = few_open size bytes power.0 power.1 large room in
      let h = opened m base size count rights number power large most whole at_most a in
      let least = ltb-false count 8 e in
      let eight : count ≡ 8 = omega (arith, at_most, least) in
      let exact = power.1 in
      let split = power_split 8 power.0 (smaller_exponent 8 power.0 (omega (arith, large, exact))) in
      let same : count * (size / 8) ≡ size = ap (λ x. x * (size / 8)) eight ∙ (let s : 8 * (size / 8) ≡ size = omega (arith, exact, split) in s) in
      (λ t. let i = h.0 t in let high = i.1 in (i.0, omega (arith, high, same)), λ i. let high = i.1 in h.1 (i.0, omega (arith, high, same)))

  by_size : (t : Bool) → has_eighths size ≡ t → IsTrue (holds (region_of m base size (cond t (closed_from count) 0) rights) a) ↔ ((base ≤ a) × (a < base + cond (t && nat_lt count 8) (size / 8 * count) size))
  by_size true e = with_eighths (leb-true 256 size e) (nat_lt count 8) refl
  by_size false e =
      let h = held m base size 0 rights number power least most whole (lit< tt) a in
      (λ t. let i = h.0 t in (i.from_base, i.below_end), λ i. h.1 (record { from_base = i.0; below_end = i.1; not_taken_out = λ g. bit_at-zero ((a - base) / (size / 8)) }))

  -- the region for a block with so many bytes holds its open eighths
  pub open_held : IsTrue (holds (region_of m base size (subregions_out size bytes) rights) a) ↔ ((base ≤ a) × (a < base + open_bytes size bytes))
  unfolding subregions_out
  open_held = by_size (has_eighths size) refl

pub few_bits : (size bytes : ℕ) → subregions_out size bytes < 2 ^ 8
unfolding subregions_out
few_bits size bytes = by (has_eighths size)
  where
    by : (t : Bool) → cond t (closed_from (open_eighths size bytes)) 0 < 2 ^ 8
    by true = let some = pow_pos (open_eighths size bytes) in omega (arith, some)
    by false = lit< tt

-- ---- the slots of data regions

-- what they rest on
pub record DataLaws : Type 0 where
  pub globals : GlobalLaws
  pub held : RegionsHoldTheirBlocks
  pub opened : OpenEighthsAreHeld
  pub given : RegionsGiveTheirRights

-- a region that holds an address, and in which all may store
abbrev pub Stores : (address : ℕ) → Region → Type 0
Stores a g = (holds g a ≡ true) × (permission g ≡ 3)

module _ (laws : DataLaws) (planned : PlannedPremises) where
  open laws use {globals as law, held, opened, given}
  open planned use {firmware as w, needs as n, final as f, board as b}

  abbrev p : Program
  p = resolve w

  abbrev s : Sizes
  s = planned_sizes w n f b

  abbrev l : Plan
  l = plan w n f b

  abbrev bytes_of : ℕ → ℕ
  bytes_of r = region_bytes p (region_at f.regions r).globals

  is_use : (r : ℕ) → r < length f.regions → IsUse f (ForRegion r)
  is_use r h = record { of_globals = tt; there = h }

  pub slot_holds : (c r a m : ℕ) → r < length f.regions → m < 16 → IsTrue (holds (use_region m (data_slot p f l c r)) a) ↔ HoldsAddress p f l (ForRegion r) a
  slot_holds c r a m h number =
      let u = is_use r h in
      let size : (region_spot l r).size ≡ block_size_for (bytes_of r) = block_size_is law.plans planned (ForRegion r) u in
      let most = small law.plans planned (ForRegion r) u in
      let is = small_block (bytes_of r) most in
      let exact : (region_spot l r).size ≡ 2 ^ is.0.0 = size ∙ is.0.3 in
      let least = pow_mono {i = 5} {j = is.0.0} is.0.1 in
      let room = is.1 in
      open_held held opened (data_rights (region_at f.regions r) c) m a (region_spot l r).base (region_spot l r).size (bytes_of r) number (is.0.0, exact) (omega (arith, exact, least)) (omega (arith, size, most))
      (subst (λ z. (region_spot l r).base % z ≡ 0) (sym size) (block_in law.plans planned (ForRegion r) u).1) (omega (arith, size, room))

  -- a data region with a slot in which all may store has the compartment among its writers
  pub writes_there : (c a r m : ℕ) → Stores a (use_region m (data_slot p f l c r)) → has (region_at f.regions r).writers c ≡ true
  writes_there c a r m (h, ap_is) = by (has (region_at f.regions r).writers c) refl
    where
      spot : Spot
      spot = region_spot l r

      out : ℕ
      out = subregions_out spot.size (region_bytes p (region_at f.regions r).globals)

      lets : allows (use_region m (data_slot p f l c r)) true Write ≡ true
      lets = ap (λ k. nat_eq k 3) ap_is

      by : (t : Bool) → has (region_at f.regions r).writers c ≡ t → has (region_at f.regions r).writers c ≡ true
      by true e = e
      by false e =
          let off = ap (λ t. allows (region_of m spot.base spot.size out (cond t Ram Background)) true Write) e
          ∙ given m spot.base spot.size out Background (few_bits spot.size (region_bytes p (region_at f.regions r).globals)) true Write in
          absurd (let wrong : true ≡ false = sym lets ∙ off in cc)

  module _ (c a r : ℕ) (there_is : r < length f.regions) (it : HoldsAddress p f l (ForRegion r) a) where
    data_bears : Bears a (data_slot p f l c r)
    data_bears m number = (slot_holds c r a m there_is number).1 it

    data_lets : has (region_at f.regions r).writers c ≡ true → Lets a (data_slot p f l c r)
    data_lets writer m number =
        ap (λ t. allows (region_of m (region_spot l r).base (region_spot l r).size (subregions_out (region_spot l r).size (bytes_of r)) (cond t Ram Background)) true Write) writer
        ∙ given m (region_spot l r).base (region_spot l r).size (subregions_out (region_spot l r).size (bytes_of r)) Ram (few_bits (region_spot l r).size (bytes_of r)) true Write

    other_harmless : (q : ℕ) → q < length f.regions → q ≢ r → Harmless a (data_slot p f l c q)
    other_harmless q h d m number = inl (by (holds (use_region m (data_slot p f l c q)) a) refl)
      where
        number_of : (x y : ℕ) → ForRegion x ≡ ForRegion y → x ≡ y
        number_of x y e = cc

        by : (t : Bool) → holds (use_region m (data_slot p f l c q)) a ≡ t → holds (use_region m (data_slot p f l c q)) a ≡ false
        by false e = e
        by true e = absurd (law.plans.apart p f s b (ForRegion q) (ForRegion r) a (λ e. d (number_of q r e)) ((slot_holds c q a m h number).0 e) it)

    all_harmless : has (region_at f.regions r).writers c ≡ true → (qs : List ℕ) (ds : List Cover) → Each (λ q. q < length f.regions) qs → Each (Harmless a) (map (data_slot p f l c) qs ++ map cover_slot ds)
    all_harmless writer [] ds e = covers_harmless given a ds
    all_harmless writer (q ∷ qs) ds e = (⊎_elim same (other_harmless q e.0) (cases_eq q r), all_harmless writer qs ds e.1)
      where
        same : q ≡ r → Harmless a (data_slot p f l c q)
        same i = subst (λ k. Harmless a (data_slot p f l c k)) (sym i) (λ m number. inr (data_lets writer m number))

    pub written_data : has (region_at f.regions r).writers c ≡ true → (qs : List ℕ) (ds : List Cover) → Each (λ q. q < length f.regions) qs → has qs r ≡ true
        → Written a (map (data_slot p f l c) qs ++ map cover_slot ds)
    written_data writer [] ds e h = absurd (let wrong : false ≡ true = h in cc)
    written_data writer (q ∷ qs) ds e h = by (nat_eq q r) refl h (written_data writer qs ds e.1)
      where
        rest : List SlotUse
        rest = map (data_slot p f l c) qs ++ map cover_slot ds

        by : (t : Bool) → nat_eq q r ≡ t → (t || has qs r) ≡ true → (has qs r ≡ true → Written a rest) → Written a (data_slot p f l c q ∷ rest)
        by true i h ih = subst (λ k. Written a (data_slot p f l c k ∷ rest)) (sym (eqb-true q r i)) (this data_bears (data_lets writer) (all_harmless writer qs ds e.1))
        by false i h ih = behind (ih h)

    pub borne_data : (qs : List ℕ) (ds : List Cover) → has qs r ≡ true → Borne a (map (data_slot p f l c) qs ++ map cover_slot ds)
    borne_data [] ds h = absurd (let wrong : false ≡ true = h in cc)
    borne_data (q ∷ qs) ds h = by (nat_eq q r) refl h (borne_data qs ds)
      where
        rest : List SlotUse
        rest = map (data_slot p f l c) qs ++ map cover_slot ds

        by : (t : Bool) → nat_eq q r ≡ t → (t || has qs r) ≡ true → (has qs r ≡ true → Borne a rest) → Borne a (data_slot p f l c q ∷ rest)
        by true i h ih = subst (λ k. Borne a (data_slot p f l c k ∷ rest)) (sym (eqb-true q r i)) (here data_bears)
        by false i h ih = there (ih h)

-- The tables in flash, as the steps that write a compartment's regions take them.
use Rattle.std.proofs.Common.{◌≡◌, ℕ, ◌+◌, ◌-◌, ◌*◌, ◌/◌, ◌%◌, ◌^◌, ◌<◌, ◌≤◌, ◌⊎◌, inl, inr, List, [], ◌∷◌, ◌++◌, map, length, min, refl, sym, ap, ap₂, ◌∙◌, subst, arith, length-append}
use Rattle.std.specs.Prelude.{flat_map, ◌↔◌}
use Rattle.std.specs.Int.{trailing_zeros, w32, bit_at}
use Rattle.std.specs.Int.Count.{count_trailing_zeros}
use Rattle.std.proofs.lemmas.Bool.Decides.{nat_tests}
use Rattle.machine_protection.specs.declared.region.Region.{Region}
use Rattle.machine_protection.specs.RegionWords.{region_of, size_field}
use Rattle.machine_protection.specs.Registers.{Registers}
use Rattle.machine_protection.specs.Laws.{kept_region}
use Rattle.machine_protection.specs.Configured.{closed_from, AreNumbered, written, AreWritten}
use Rattle.machine_protection.proofs.Configured.{lists_are_written, eighths_are_closed}
use Rattle.machine_devices.specs.declared.image.Image.{Image}
use Rattle.machine_devices.specs.Rules.{ObeysRules}
use Rattle.base_laws.specs.Lists.{Each}
use Rattle.base_ranges.specs.Ranges.{IsPowerBetween}
use Rattle.monitor_model.specs.declared.tables.CompRecord.{CompRecord}
use Rattle.monitor_model.specs.declared.tables.SiteRecord.{SiteRecord}
use Rattle.monitor_model.specs.declared.tables.TargetRecord.{TargetRecord}
use Rattle.monitor_model.specs.declared.tables.Tables.{Tables}
use Rattle.monitor_model.specs.Records.{nobody, compartment_at, number_of_slots, eighth}
use Rattle.monitor_model.specs.Layout.{head_at}
use Rattle.monitor_model.specs.Placed.{Placed}
use Rattle.monitor_model.specs.Area.{region_words, compartment_words, site_words, target_words, head, area}
use Rattle.monitor_model.specs.Regions.{background, tables_region, stack_region, regions_for}
use Rattle.monitor_program.specs.Constants.{Constants, constants_with}
use Rattle.monitor_laws.specs.RegionsWritten.{IsNumbered, Writable, StackIsClosedAboveTop}
use Rattle.monitor_laws.proofs.Numbers.{times_over, below_256, product}
use Rattle.monitor_laws.proofs.Written.{HasRegions, HasRecord, Shaped, open_stack}
use Rattle.monitor_laws.proofs.FlashWords.{Has, flash_has, has_front, has_back, has_record, has_regions}
use Rattle.base_laws.proofs.Lists.{each_to, each_at}

-- ---- the stack's size

nine_to_sixteen : (k : ℕ) → 9 ≤ k → k ≤ 16 → (k ≡ 9) ⊎ ((k ≡ 10) ⊎ ((k ≡ 11) ⊎ ((k ≡ 12) ⊎ ((k ≡ 13) ⊎ ((k ≡ 14) ⊎ ((k ≡ 15) ⊎ (k ≡ 16)))))))
nine_to_sixteen k a b = grind arith

-- what the words of region 3 take of it
pub record StackSize (z : ℕ) : Type 0 where
  pub power : 2 ^ trailing_zeros w32 (z / 8) ≡ z / 8
  pub exponent : trailing_zeros w32 (z / 8) ≤ 13
  pub eighths : 8 * (z / 8) ≡ z
  pub least : 64 ≤ z / 8
  pub most : z ≤ 2 ^ 16
  pub field : size_field z < 32
  pub aligned : (b : ℕ) → b % z ≡ 0 → b % 32 ≡ 0

size_by : (z k : ℕ) → z ≡ 2 ^ k → (k ≡ 9) ⊎ ((k ≡ 10) ⊎ ((k ≡ 11) ⊎ ((k ≡ 12) ⊎ ((k ≡ 13) ⊎ ((k ≡ 14) ⊎ ((k ≡ 15) ⊎ (k ≡ 16))))))) → StackSize z
unfolding count_trailing_zeros
size_by z k e (inl h) = rw (e, h) (record { power = refl; exponent = omega arith; eighths = refl; least = omega arith; most = omega arith; field = omega arith; aligned = λ b a. omega (arith, a) })
size_by z k e (inr (inl h)) = rw (e, h) (record { power = refl; exponent = omega arith; eighths = refl; least = omega arith; most = omega arith; field = omega arith; aligned = λ b a. omega (arith, a) })
size_by z k e (inr (inr (inl h))) = rw (e, h) (record { power = refl; exponent = omega arith; eighths = refl; least = omega arith; most = omega arith; field = omega arith; aligned = λ b a. omega (arith, a) })
size_by z k e (inr (inr (inr (inl h)))) = rw (e, h) (record { power = refl; exponent = omega arith; eighths = refl; least = omega arith; most = omega arith; field = omega arith; aligned = λ b a. omega (arith, a) })
size_by z k e (inr (inr (inr (inr (inl h))))) = rw (e, h) (record { power = refl; exponent = omega arith; eighths = refl; least = omega arith; most = omega arith; field = omega arith; aligned = λ b a. omega (arith, a) })
size_by z k e (inr (inr (inr (inr (inr (inl h)))))) = rw (e, h) (record { power = refl; exponent = omega arith; eighths = refl; least = omega arith; most = omega arith; field = omega arith; aligned = λ b a. omega (arith, a) })
size_by z k e (inr (inr (inr (inr (inr (inr (inl h))))))) = rw (e, h) (record { power = refl; exponent = omega arith; eighths = refl; least = omega arith; most = omega arith; field = omega arith; aligned = λ b a. omega (arith, a) })
size_by z k e (inr (inr (inr (inr (inr (inr (inr h))))))) = rw (e, h) (record { power = refl; exponent = omega arith; eighths = refl; least = omega arith; most = omega arith; field = omega arith; aligned = λ b a. omega (arith, a) })

pub stack_size : (z : ℕ) → IsPowerBetween 9 16 z → StackSize z
stack_size z p = size_by z p.0 p.3 (nine_to_sixteen p.0 p.1 p.2)

-- the stack's, where the tables are those of the board
pub size_of_stack : {i : Image} {t : Tables} → Placed i t → StackSize t.stack.size
size_of_stack {i} {t} p = stack_size t.stack.size (subst (λ z. IsPowerBetween 9 16 z) (sym p.stack_size) p.stack.size)

-- ---- the words of a compartment

pub slot_words : (gs : List Region) → length (flat_map region_words gs) ≡ 2 * length gs
slot_words [] = refl
slot_words (g ∷ gs) = let h = slot_words gs in omega (arith, h)

record_length : (s : ℕ) (c : CompRecord) → length c.slots ≡ s → length (compartment_words c) ≡ 2 * s + 4
record_length s c e =
    let a = length-append (flat_map region_words c.slots) (c.mask ∷ c.reads ∷ []) in
    let b = slot_words c.slots in
    omega (arith, a, b, e)

-- the words of a site's record, and of a target's
pub three_words : (xs : List SiteRecord) → Each (λ x. length (site_words x) ≡ 3) xs
three_words [] = tt
three_words (x ∷ xs) = (refl, three_words xs)

pub two_words : (xs : List TargetRecord) → Each (λ x. length (target_words x) ≡ 2) xs
two_words [] = tt
two_words (x ∷ xs) = (refl, two_words xs)

pub least_of : (a b : ℕ) → b ≤ a → min a b ≡ b
least_of a b h = search (arith, nat_tests)

module _ (i : Image) (t : Tables) (w : Writable i t) (stub : ℕ) where
  abbrev pub k : Constants
  k = constants_with stub t

  rules : ObeysRules i
  rules = w.rules

  pub slots_are : k.slots ≡ number_of_slots t
  slots_are = least_of 12 (number_of_slots t) w.most

  -- the tables behind the eight words in front
  pub behind_head : Has i (4096 + 32) (flat_map compartment_words t.comps)
  behind_head =
      let whole = flash_has i (head_at t) (area t) w.in_flash in
      let e : head_at t - i.flash_base + 4 * 8 ≡ 4096 + 32 = let f = w.first in omega (arith, f) in
      subst (λ n. Has i n (flat_map compartment_words t.comps)) e
      (has_front i (head_at t - i.flash_base + 4 * 8) (flat_map compartment_words t.comps) _ (has_back i (head_at t - i.flash_base) (head t) _ whole))

  pub counts : Each (λ c. length (compartment_words c) ≡ 2 * number_of_slots t + 4) t.comps
  counts = each_to (IsNumbered t) (λ c. length (compartment_words c) ≡ 2 * number_of_slots t + 4) t.comps (λ c n. record_length (number_of_slots t) c n.count) w.comps

  -- where the record of a compartment stands
  abbrev pub record_at : ℕ → ℕ
  record_at cur = 4096 + 32 + 4 * ((2 * number_of_slots t + 4) * cur)

  pub has_compartment : (cur : ℕ) → cur < length t.comps → HasRecord i k cur (record_at cur) (compartment_at t cur).code (compartment_at t cur).slots
  has_compartment cur lt =
      let c : CompRecord = compartment_at t cur in
      let o : ℕ = record_at cur in
      let has : Has i o (compartment_words c) = has_record i compartment_words (2 * number_of_slots t + 4) t.comps nobody (4096 + 32) counts behind_head cur lt in
      let behind : Has i (o + 4 * 2) (flat_map region_words c.slots ++ c.mask ∷ c.reads ∷ []) = has_back i o (region_words c.code) (flat_map region_words c.slots ++ c.mask ∷ c.reads ∷ []) has in
      let n : IsNumbered t c = each_at (IsNumbered t) t.comps nobody cur w.comps lt in
      record {
        at = placed (number_of_slots t) cur k.slots slots_are;
        aligned = four ((2 * number_of_slots t + 4) * cur);
        count = n.count ∙ sym slots_are;
        code_words = let e : o ≡ o + 4 * 0 = omega arith in subst (λ n. HasRegions i (c.code ∷ []) n) e (has_regions i (c.code ∷ []) (flat_map region_words c.slots ++ c.mask ∷ c.reads ∷ []) o has);
        slot_words = has_regions i c.slots (c.mask ∷ c.reads ∷ []) (o + 4 * 2) behind;
      }
    where
      four : (x : ℕ) → (4096 + 32 + 4 * x) % 4 ≡ 0
      four x = omega arith

      base_is : k.compartments_at ≡ i.flash_base + 4096 + 32
      base_is = let f = w.first in let r = rules.flash_highest in omega (arith, f, r)

      placed : (s cur n : ℕ) → n ≡ s → k.compartments_at + (8 * n + 16) * cur ≡ i.flash_base + (4096 + 32 + 4 * ((2 * s + 4) * cur))
      placed s cur n e = let b = base_is in let m : (8 * n + 16) * cur ≡ 4 * ((2 * s + 4) * cur) = ap (λ n. (8 * n + 16) * cur) e ∙ product s cur in omega (arith, b, m)

  size_is : StackSize t.stack.size
  size_is = stack_size t.stack.size w.stack_size

  pub shaped : Shaped k
  unfolding region_of
  shaped = record {
    least = let a = w.least in let b = slots_are in omega (arith, a, b);
    most = let a = w.most in let b = slots_are in omega (arith, a, b);
    eighths = size_is.exponent;
    stack_ends = ends size_is w.stack_inside.1 w.stack_inside.0;
    rasr = small size_is;
  }
    where
      ends : StackSize t.stack.size → t.stack.base + t.stack.size ≤ i.ram_base + i.ram_size → i.ram_base ≤ t.stack.base → k.stack + 8 * 2 ^ k.eighth < 2 ^ 31
      ends z a b = let p = z.power in let e = z.eighths in let r = rules.ram_highest in let m = rules.ram_most in omega (arith, p, e, a, b, r, m)

      small : StackSize t.stack.size → k.stack_region.rasr < 2 ^ 31
      small z = let f = z.field in omega (arith, f)

  -- ---- the stack's region

  pub top_is : (n top : ℕ) → top ≡ t.stack.base + n * eighth t → top ≡ k.stack + n * 2 ^ k.eighth
  top_is n top e = let p = size_is.power in let b = base_small in let m : n * 2 ^ k.eighth ≡ n * eighth t = ap (λ x. n * x) p in omega (arith, e, m, b)
    where
      base_small : k.stack ≡ t.stack.base
      base_small = let a = w.stack_inside.1 in let r = rules.ram_highest in let m = rules.ram_most in omega (arith, a, r, m)

  pub open_below : (n top : ℕ) → top ≡ t.stack.base + n * eighth t → (top - t.stack.base) / eighth t ≡ n
  open_below n top e =
      let l = size_is.least in
      let d : top - t.stack.base ≡ n * eighth t = omega (arith, e) in
      ap (λ x. x / eighth t) d ∙ times_over n (eighth t) (omega (arith, l))

  pub same_stack : (n top : ℕ) → n ≤ 8 → top ≡ t.stack.base + n * eighth t → open_stack k n ≡ stack_region t top
  unfolding region_of
  same_stack n top few e = ap₂ (λ a b. record { rbar = a; rasr = b }) address attributes
    where
      address : k.stack_region.rbar ≡ (stack_region t top).rbar
      address = let a = w.stack_inside.1 in let r = rules.ram_highest in let m = rules.ram_most in omega (arith, a, r, m)

      attributes : k.stack_region.rasr + (256 - 2 ^ n) * 256 ≡ (stack_region t top).rasr
      attributes =
          let f = size_is.field in
          let c : closed_from ((top - t.stack.base) / eighth t) ≡ 256 - 2 ^ n = ap closed_from (open_below n top e) in
          omega (arith, f, c)

  -- ---- the unit's regions behind the writes

  pub numbered : (n top cur : ℕ) → n ≤ 8 → cur < length t.comps → top ≡ t.stack.base + n * eighth t → AreNumbered 2 ((compartment_at t cur).code ∷ (open_stack k n ∷ (compartment_at t cur).slots))
  unfolding region_of
  numbered n top cur few lt e =
      let m : IsNumbered t (compartment_at t cur) = each_at (IsNumbered t) t.comps nobody cur w.comps lt in
      let c = m.code in
      (c.0, c.1, ((valid (size_is.aligned t.stack.base w.stack_aligned)).0, (valid (size_is.aligned t.stack.base w.stack_aligned)).1, m.slots))
    where
      valid : t.stack.base % 32 ≡ 0 → (k.stack_region.rbar / 2 ^ 4 % 2 ≡ 1) × (k.stack_region.rbar % 16 ≡ 3)
      valid a = (omega (arith, a), omega (arith, a))

  pub unit_is : (n top cur : ℕ) (others : List Region) (u : Registers) → n ≤ 8 → cur < length t.comps → top ≡ t.stack.base + n * eighth t → length others ≡ number_of_slots t + 2 → u.regions ≡ kept_region (background i) ∷ kept_region (tables_region t) ∷ others →
      (written ((compartment_at t cur).code ∷ (open_stack k n ∷ (compartment_at t cur).slots)) u).regions ≡ regions_for i t cur top
  unit_is n top cur others u few lt e h r =
      let m : IsNumbered t (compartment_at t cur) = each_at (IsNumbered t) t.comps nobody cur w.comps lt in
      let c = m.count in
      let all : AreWritten ((compartment_at t cur).code ∷ (open_stack k n ∷ (compartment_at t cur).slots)) (kept_region (background i) ∷ kept_region (tables_region t) ∷ []) u =
      lists_are_written ((compartment_at t cur).code ∷ (open_stack k n ∷ (compartment_at t cur).slots)) (kept_region (background i) ∷ kept_region (tables_region t) ∷ []) others u r (omega (arith, c, h)) (numbered n top cur few lt e) in
      all.regions ∙ ap (λ g. kept_region (background i) ∷ kept_region (tables_region t) ∷ kept_region (compartment_at t cur).code ∷ kept_region g ∷ map kept_region (compartment_at t cur).slots) (same_stack n top few e)

-- ---- the bits of the stack's region

closed_bits : (t : Tables) (top n k : ℕ) → StackSize t.stack.size → top ≡ t.stack.base + k * eighth t → k ≤ 8 → n < 8 →
    (bit_at ((stack_region t top).rasr / 2 ^ 8 % 2 ^ 8) n ≡ 1) ↔ (top ≤ t.stack.base + n * eighth t)
unfolding region_of
closed_bits t top n k z e few lt =
    (λ h. to (bits.0 (sym (ap (λ x. bit_at x n) srd) ∙ h)), λ h. ap (λ x. bit_at x n) srd ∙ bits.1 (from h))
  where
    bits : (bit_at (closed_from k) n ≡ 1) ↔ (k ≤ n)
    bits = eighths_are_closed k n lt

    open_is : (top - t.stack.base) / eighth t ≡ k
    open_is =
        let l = z.least in
        let d : top - t.stack.base ≡ k * eighth t = omega (arith, e) in
        ap (λ x. x / eighth t) d ∙ times_over k (eighth t) (omega (arith, l))

    srd : (stack_region t top).rasr / 2 ^ 8 % 2 ^ 8 ≡ closed_from k
    srd =
        let f = z.field in
        let c : closed_from ((top - t.stack.base) / eighth t) ≡ closed_from k = ap closed_from open_is in
        let b : closed_from k < 256 = below_256 k few in
        omega (arith, f, c, b)

    to : k ≤ n → top ≤ t.stack.base + n * eighth t
    to h = let m : k * eighth t ≤ n * eighth t = grind (arith, h) in omega (arith, e, m)

    from : top ≤ t.stack.base + n * eighth t → k ≤ n
    from h = let l = z.least in grind (arith, h, e, l)

pub stack_is_closed_above_top : StackIsClosedAboveTop
stack_is_closed_above_top t top n p is lt = let k = is.3 in closed_bits t top n is.0 (stack_size t.stack.size p) is.1 (omega (arith, k)) lt

-- The slot of a block of data passes where what its open eighths hold is data alone.
use Rattle.std.proofs.Common.{◌≡◌, ℕ, zero, suc, ◌+◌, ◌*◌, ◌/◌, ◌%◌, ◌^◌, ◌<◌, ◌≤◌, Bool, true, false, ◌&&◌, ◌||◌, cond, nat_eq, nat_lt, nat_le, refl, ap, ap₂, sym, ◌∙◌, subst, lit<, arith}
use Rattle.std.specs.Int.{bit_at}
use Rattle.std.proofs.Math.Nat.{mul_comm}
use Rattle.std.proofs.Math.Pow.{pow_mono}
use Rattle.std.proofs.lemmas.Bool.{cases_lt, or_left, or_right}
use Rattle.std.proofs.lemmas.Bool.Decides.{nat_tests}
use Rattle.std.proofs.lemmas.Nat.Bits.{bit_at_mask_inside}
use mathlib.Core.Logic.{⊎_elim}
use Rattle.machine_protection.specs.declared.region.Region.{Region}
use Rattle.machine_protection.specs.declared.words.Rights.{Rights}
use Rattle.machine_protection.specs.declared.words.Rights.TheVariants.{Background, Ram}
use Rattle.machine_protection.specs.Regions.{size_log}
use Rattle.machine_protection.specs.RegionWords.{region_of}
use Rattle.machine_protection.specs.Configured.{closed_from}
use Rattle.machine_devices.specs.declared.image.Image.{Image}
use Rattle.base_ranges.specs.Ranges.{IsPowerBetween}
use Rattle.monitor_model.specs.declared.tables.Tables.{Tables}
use Rattle.monitor_model.specs.RegionChecks.{is_data_range, base_of, size_of, taken_out, has_form, eighths_hold_data, holds_data, is_free, is_data, is_read_only, is_cover, is_slot}
use Rattle.plan_model.specs.Blocks.{has_eighths, open_eighths, subregions_out}
use Rattle.plan_layout_laws.specs.RamLaws.{open_bytes}
use Rattle.machine_protection.proofs.Configured.{closed_byte}
use Rattle.image_promises.proofs.Passing.{and_yes, le_yes, lt_yes, eq_yes}
use Rattle.image_promises.proofs.Forms.{IsMade, is_made}
use Rattle.image_promises.proofs.Products.{times, one_more}

-- the ranges of a block that are data: those that its open eighths hold
abbrev pub HoldsData : Image → Tables → (base size bytes : ℕ) → Type 0
HoldsData i t base size bytes = (a m : ℕ) → base ≤ a → a + m ≤ base + open_bytes size bytes → a + m ≤ base + size → is_data_range i t a m ≡ true

module _ (i : Image) (t : Tables) (number base size bytes : ℕ) (rights : Rights) (few : number < 16) (power : IsPowerBetween 5 31 size) (aligned : base % size ≡ 0) (kept : HoldsData i t base size bytes) where
  abbrev g : Region
  g = region_of number base size (subregions_out size bytes) rights

  abbrev opened : ℕ
  opened = open_eighths size bytes

  byte : subregions_out size bytes < 2 ^ 8
  unfolding subregions_out
  byte = by (has_eighths size)
    where
      by : (c : Bool) → cond c (closed_from opened) 0 < 2 ^ 8
      by true = closed_byte opened
      by false = lit< tt

  made : IsMade number base size (subregions_out size bytes) rights
  made = is_made number base size (subregions_out size bytes) rights few power aligned byte

  form : has_form number (taken_out g) rights g ≡ true
  form = subst (λ x. has_form number x rights g ≡ true) (sym made.out_is) made.has

  -- ---- below 256 bytes

  whole : made.power < 8 → is_data_range i t (base_of g) (size_of g) ≡ true
  whole lt =
      let e = made.exact in
      let m = pow_mono {i = made.power} {j = 7} (omega (arith, lt)) in
      let none : has_eighths size ≡ false = grind (arith, nat_tests, e, m) in
      let all : open_bytes size bytes ≡ size = ap (λ c. cond (c && nat_lt opened 8) (size / 8 * opened) size) none in
      ap₂ (λ x y. is_data_range i t x y) made.base_is made.size_is ∙ kept base size (omega arith) (omega (arith, all)) (omega arith)

  -- ---- from 256 bytes on

  module _ (large : 8 ≤ made.power) where
    has : has_eighths size ≡ true
    has = let e = made.exact in let m = pow_mono {i = 8} {j = made.power} large in le_yes (omega (arith, e, m))

    out : taken_out g ≡ closed_from opened
    unfolding subregions_out
    out = made.out_is ∙ ap (λ c. cond c (closed_from opened) 0) has

    most : (j : ℕ) → j < 8 → j * (size / 8) + size / 8 ≤ size
    most j lt = let a = times (j + 1) 8 (size / 8) (omega (arith, lt)) in let s = one_more j (size / 8) in omega (arith, a, s)

    room : (j : ℕ) → j < 8 → j < opened → j * (size / 8) + size / 8 ≤ open_bytes size bytes
    room j lt below =
        let open_is : open_bytes size bytes ≡ cond (nat_lt opened 8) (size / 8 * opened) size = ap (λ c. cond (c && nat_lt opened 8) (size / 8 * opened) size) has in
        let h = by (nat_lt opened 8) in
        omega (arith, open_is, h)
      where
        by : (c : Bool) → j * (size / 8) + size / 8 ≤ cond c (size / 8 * opened) size
        by true =
            let a = times (j + 1) opened (size / 8) (omega (arith, below)) in
            let s = one_more j (size / 8) in
            let u = mul_comm (size / 8) opened in
            omega (arith, a, s, u)
        by false = most j lt

    one : (j : ℕ) → j < 8 → (nat_eq (bit_at (taken_out g) j) 1 || is_data_range i t (base_of g + j * (size_of g / 8)) (size_of g / 8)) ≡ true
    one j lt = ⊎_elim held away (cases_lt j opened)
      where
        held : j < opened → (nat_eq (bit_at (taken_out g) j) 1 || is_data_range i t (base_of g + j * (size_of g / 8)) (size_of g / 8)) ≡ true
        held below =
            let r = room j lt below in
            let m = most j lt in
            or_right (nat_eq (bit_at (taken_out g) j) 1) (is_data_range i t (base_of g + j * (size_of g / 8)) (size_of g / 8))
            (ap₂ (λ x y. is_data_range i t (x + j * (y / 8)) (y / 8)) made.base_is made.size_is
            ∙ kept (base + j * (size / 8)) (size / 8) (omega arith) (omega (arith, r)) (omega (arith, m)))

        away : opened ≤ j → (nat_eq (bit_at (taken_out g) j) 1 || is_data_range i t (base_of g + j * (size_of g / 8)) (size_of g / 8)) ≡ true
        away from =
            or_left (nat_eq (bit_at (taken_out g) j) 1) (is_data_range i t (base_of g + j * (size_of g / 8)) (size_of g / 8))
            (eq_yes (ap (λ x. bit_at x j) out ∙ bit_at_mask_inside opened 8 j from lt))

    eighths : (n : ℕ) → n ≤ 8 → eighths_hold_data i t g n ≡ true
    eighths zero h = refl
    eighths (suc n) h = and_yes (one n (omega (arith, h))) (eighths n (omega (arith, h)))

  held : holds_data i t g ≡ true
  held = ⊎_elim small large (cases_lt made.power 8)
    where
      small : made.power < 8 → holds_data i t g ≡ true
      small lt =
          let e = made.log in
          or_left (nat_lt (size_log g) 8 && is_data_range i t (base_of g) (size_of g)) (nat_le 8 (size_log g) && eighths_hold_data i t g 8)
          (and_yes (lt_yes (omega (arith, e, lt))) (whole lt))

      large : 8 ≤ made.power → holds_data i t g ≡ true
      large le =
          let e = made.log in
          or_right (nat_lt (size_log g) 8 && is_data_range i t (base_of g) (size_of g)) (nat_le 8 (size_log g) && eighths_hold_data i t g 8)
          (and_yes (le_yes (omega (arith, e, le))) (eighths le 8 (omega arith)))

module _ (i : Image) (t : Tables) (number base size bytes : ℕ) (few : number < 16) (power : IsPowerBetween 5 31 size) (aligned : base % size ≡ 0) (kept : HoldsData i t base size bytes) where
  -- of a writer
  pub written_passes : is_slot i t number (region_of number base size (subregions_out size bytes) Ram) ≡ true
  written_passes =
      let r = region_of number base size (subregions_out size bytes) Ram in
      or_right (is_free number r) (is_data i t number r || (is_read_only i t number r || is_cover number r))
      (or_left (is_data i t number r) (is_read_only i t number r || is_cover number r)
      (and_yes (form i t number base size bytes Ram few power aligned kept) (held i t number base size bytes Ram few power aligned kept)))

  -- and of a reader, on a closed board
  pub read_passes : i.closed ≡ true → is_slot i t number (region_of number base size (subregions_out size bytes) Background) ≡ true
  read_passes closed =
      let r = region_of number base size (subregions_out size bytes) Background in
      or_right (is_free number r) (is_data i t number r || (is_read_only i t number r || is_cover number r))
      (or_right (is_data i t number r) (is_read_only i t number r || is_cover number r)
      (or_left (is_read_only i t number r) (is_cover number r)
      (and_yes closed (and_yes (form i t number base size bytes Background few power aligned kept) (held i t number base size bytes Background few power aligned kept)))))

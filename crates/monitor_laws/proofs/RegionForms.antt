-- What the check of regions tells of the addresses that a compartment's regions hold.
use Rattle.std.proofs.Common.{◌≡◌, ℕ, zero, suc, ◌+◌, ◌-◌, ◌*◌, ◌/◌, ◌%◌, ◌^◌, ◌<◌, ◌≤◌, ◌⊎◌, inl, inr, ⊎_elim, Bool, true, false, not, ◌&&◌, ◌||◌, List, [], ◌∷◌, length, nat_eq, nat_lt, refl, sym, ap, ap₂, ◌∙◌, subst, arith, pow_pos, nat_le}
use Rattle.std.proofs.lemmas.Bool.Decides.{nat_tests}
use Rattle.std.proofs.lemmas.Nat.{div-add-mod', div-mul-add, mod_below, pow-add}
use Rattle.std.proofs.lemmas.Nat.Gcd.{dvd_of_mod-eq-zero}
use Rattle.std.proofs.Math.Nat.{div-div-eq-div-mul, div-mul_cancel}
use Rattle.std.specs.Int.{bit_at}
use Rattle.std.proofs.lemmas.Bool.{ltb-true, eqb-true, leb-true, and_parts as both, not-true, or_cases}
use Rattle.machine_protection.specs.declared.region.Region.{Region}
use Rattle.machine_protection.specs.declared.words.Rights.{Rights}
use Rattle.machine_protection.specs.declared.words.Rights.TheVariants.{Background, Code, Ram, Device}
use Rattle.machine_protection.specs.Regions.{holds, size_log, is_enabled, is_of_legal_size, is_in_block, is_taken_out, permission}
use Rattle.machine_protection.specs.RegionWords.{rights_word}
use Rattle.machine_protection.specs.Configured.{AreNumbered}
use Rattle.machine_devices.specs.declared.image.Image.{Image}
use Rattle.base_ranges.specs.Ranges.{IsInside, AreApart, is_inside, are_apart}
use Rattle.base_ranges.proofs.Decisions.{decides_inside, decides_apart}
use Rattle.machine_devices.specs.Rules.{ObeysRules, block_size}
use Rattle.monitor_model.specs.declared.tables.CompRecord.{CompRecord}
use Rattle.monitor_model.specs.declared.tables.Tables.{Tables}
use Rattle.base_laws.specs.Lists.{Each}
use Rattle.monitor_model.specs.RegionChecks.{is_data_range, base_of, size_of, taken_out, has_form, eighths_hold_data, holds_data, is_code, is_free, is_data, is_read_only, is_cover, is_slot, are_slots, is_mask, is_compartment}
use Rattle.monitor_model.specs.Placed.{IsCode, IsSlot, IsSlotByte, InFlashOf}

-- ---- forms

pub record Form (n srd : ℕ) (rights : Rights) (g : Region) : Type 0 where
  pub least : 5 ≤ size_log g
  pub most : size_log g ≤ 32
  pub aligned : base_of g % 2 ^ size_log g ≡ 0
  pub rbar : g.rbar ≡ base_of g + 2 ^ 4 + n
  pub rasr : g.rasr ≡ rights_word rights + srd * 2 ^ 8 + (size_log g - 1) * 2

form_of : (n srd : ℕ) (rights : Rights) (g : Region) → has_form n srd rights g ≡ true → Form n srd rights g
form_of n srd rights g h =
    let a = both (is_of_legal_size g) (nat_eq (base_of g % size_of g) 0 && (nat_eq g.rbar (base_of g + 2 ^ 4 + n) && nat_eq g.rasr (rights_word rights + srd * 2 ^ 8 + (size_log g - 1) * 2))) h in
    let b = both (nat_eq (base_of g % size_of g) 0) (nat_eq g.rbar (base_of g + 2 ^ 4 + n) && nat_eq g.rasr (rights_word rights + srd * 2 ^ 8 + (size_log g - 1) * 2)) a.1 in
    let c = both (nat_eq g.rbar (base_of g + 2 ^ 4 + n)) (nat_eq g.rasr (rights_word rights + srd * 2 ^ 8 + (size_log g - 1) * 2)) b.1 in
    let l = ltb-true 4 (size_log g) a.0 in
    record { least = omega (arith, l); most = omega arith; aligned = eqb-true (base_of g % size_of g) 0 b.0; rbar = eqb-true g.rbar (base_of g + 2 ^ 4 + n) c.0; rasr = eqb-true g.rasr (rights_word rights + srd * 2 ^ 8 + (size_log g - 1) * 2) c.1 }

-- an address in the block of a base
in_range : (z b m a : ℕ) → 32 ≤ z → m < 32 → b % z ≡ 0 → a / z ≡ (b + m) / z → (b ≡ a / z * z) × (b ≤ a) × (a < b + z)
in_range z b m a le lt al e =
    let q : ℕ = b / z in
    let e1 : b ≡ q * z = sym (div-mul_cancel z (dvd_of_mod-eq-zero z al)) in
    let e2 : (b + m) / z ≡ q = ap (λ x. (x + m) / z) e1 ∙ div-mul-add q z m (omega (arith, le, lt)) in
    let e3 : a / z * z ≡ q * z = ap (λ x. x * z) (e ∙ e2) in
    let d = div-add-mod' a z in
    let l = mod_below a z (omega (arith, le)) in
    (omega (arith, e1, e3), omega (arith, e1, e3, d), omega (arith, e1, e3, d, l))

-- what `holds` asks
record Held (g : Region) (a : ℕ) : Type 0 where
  pub enabled : g.rasr % 2 ≡ 1
  pub block : a / 2 ^ size_log g ≡ g.rbar / 2 ^ size_log g
  pub kept : is_taken_out g a ≡ false

held_is : (g : Region) (a : ℕ) → holds g a ≡ true → Held g a
unfolding holds
held_is g a h =
    let p = both (is_enabled g) (is_of_legal_size g && (is_in_block g a && not (is_taken_out g a))) h in
    let q = both (is_of_legal_size g) (is_in_block g a && not (is_taken_out g a)) p.1 in
    let r = both (is_in_block g a) (not (is_taken_out g a)) q.1 in
    record { enabled = eqb-true (g.rasr % 2) 1 p.0; block = eqb-true (a / 2 ^ size_log g) (g.rbar / 2 ^ size_log g) r.0; kept = not-true (is_taken_out g a) r.1 }

large : (n : ℕ) → 5 ≤ n → 32 ≤ 2 ^ n
large n h = let e : n ≡ 5 + (n - 5) = omega (arith, h) in let p = pow_pos (n - 5) in let q = ap (λ n. 2 ^ n) e ∙ pow-add 2 5 (n - 5) in omega (arith, p, q)

-- such an address lies in the block
block_of : (n srd : ℕ) (rights : Rights) (g : Region) (a : ℕ) → n < 16 → Form n srd rights g → Held g a → (base_of g ≡ a / 2 ^ size_log g * 2 ^ size_log g) × (base_of g ≤ a) × (a < base_of g + 2 ^ size_log g)
block_of n srd rights g a few f h =
    in_range (2 ^ size_log g) (base_of g) (2 ^ 4 + n) a (large (size_log g) f.least) (omega (arith, few)) f.aligned (h.block ∙ ap (λ x. x / 2 ^ size_log g) (f.rbar ∙ again (base_of g) n))
  where
    again : (b n : ℕ) → b + 2 ^ 4 + n ≡ b + (2 ^ 4 + n)
    again b n = omega arith

-- rights by the word of attributes
code_word : (s : ℕ) → s ≤ 32 → ((0x06020001 + 0 * 2 ^ 8 + (s - 1) * 2) / 2 ^ 24 % 8 ≡ 6) × ((0x06020001 + 0 * 2 ^ 8 + (s - 1) * 2) / 2 ^ 28 % 2 ≡ 0)
code_word s h = (omega (arith, h), omega (arith, h))

code_is : (i : Image) (g : Region) → is_code i g ≡ true → IsCode i g
code_is i g h =
    let p = both (has_form 2 0 Code g) (is_inside (base_of g) (size_of g) i.flash_base (length i.flash)) h in
    let f = form_of 2 0 Code g p.0 in
    let n = (decides_inside (base_of g) (size_of g) i.flash_base (length i.flash)).0 p.1 in
    let w = code_word (size_log g) f.most in
    let e : permission g ≡ 6 = ap (λ x. x / 2 ^ 24 % 8) f.rasr ∙ w.0 in
    let x : g.rasr / 2 ^ 28 % 2 ≡ 0 = ap (λ x. x / 2 ^ 28 % 2) f.rasr ∙ w.1 in
    record {
      read_only = rw e refl;
      readable = rw e refl;
      runs = rw (e, x) refl;
      in_flash = λ a h. let b = block_of 2 0 Code g a (omega arith) f (held_is g a h) in within a (base_of g) (2 ^ size_log g) b.1 b.2 n.0 n.1;
    }
  where
    within : (a b z : ℕ) → b ≤ a → a < b + z → i.flash_base ≤ b → b + z ≤ i.flash_base + length i.flash → InFlashOf i a
    within a b z l u lo hi = (omega (arith, l, lo), omega (arith, u, hi))

code_numbered : (i : Image) (g : Region) → is_code i g ≡ true → AreNumbered 2 (g ∷ [])
code_numbered i g h =
    let p = both (has_form 2 0 Code g) (is_inside (base_of g) (size_of g) i.flash_base (length i.flash)) h in
    let f = form_of 2 0 Code g p.0 in
    let r = f.rbar in
    (omega (arith, r), omega (arith, r), tt)

-- where the stack and the block lie
pub record Grounds (i : Image) (t : Tables) : Type 0 where
  pub rules : ObeysRules i
  pub stack : IsInside t.stack.base t.stack.size i.ram_base i.ram_size
  pub block : IsInside t.monitor block_size i.ram_base i.ram_size

module _ (i : Image) (t : Tables) (w : Grounds i t) where
  rules : ObeysRules i
  rules = w.rules

  -- an address of data, and one of a cover
  record Apart (a : ℕ) : Type 0 where
    pub off_flash : InFlashOf i a → ⊥
    pub off_stack : AreApart a 1 t.stack.base t.stack.size
    pub off_block : AreApart a 1 t.monitor block_size

  data_apart : (b n a : ℕ) → is_data_range i t b n ≡ true → b ≤ a → a < b + n → Apart a
  data_apart b n a h lo hi =
      let p = both (is_inside b n i.ram_base i.ram_size) (are_apart b n t.stack.base t.stack.size && are_apart b n t.monitor block_size) h in
      let q = both (are_apart b n t.stack.base t.stack.size) (are_apart b n t.monitor block_size) p.1 in
      let r = (decides_inside b n i.ram_base i.ram_size).0 p.0 in
      let r0 = r.0 in
      record {
        off_flash = λ f. let e = f.1 in let x = rules.flash_highest in let y = rules.flash_most in let z = rules.ram_lowest in omega (arith, e, x, y, z, r0, lo);
        off_stack = one b n a t.stack.base t.stack.size ((decides_apart b n t.stack.base t.stack.size).0 q.0) lo hi;
        off_block = one b n a t.monitor block_size ((decides_apart b n t.monitor block_size).0 q.1) lo hi;
      }
    where
      one : (b n a c m : ℕ) → AreApart b n c m → b ≤ a → a < b + n → AreApart a 1 c m
      one b n a c m h lo hi = ⊎_elim (λ x. inl (omega (arith, x, hi))) (λ x. inr (omega (arith, x, lo))) h

  cover_apart : (b n a : ℕ) → IsInside b n 0x40000000 0x20000000 → b ≤ a → Apart a
  cover_apart b n a r lo =
      let r0 = r.0 in
      record {
        off_flash = λ f. let e = f.1 in let x = rules.flash_highest in let y = rules.flash_most in omega (arith, e, x, y, r0, lo);
        off_stack = inr (let e = w.stack.1 in let x = rules.ram_highest in let y = rules.ram_most in omega (arith, e, x, y, r0, lo));
        off_block = inr (let e = w.block.1 in let x = rules.ram_highest in let y = rules.ram_most in omega (arith, e, x, y, r0, lo));
      }

  -- an eighth that is not taken out holds data
  eighth_data : (g : Region) (n k : ℕ) → k < n → eighths_hold_data i t g n ≡ true → (bit_at (taken_out g) k ≡ 1) ⊎ (is_data_range i t (base_of g + k * (size_of g / 8)) (size_of g / 8) ≡ true)
  eighth_data g zero k lt h = absurd (omega (arith, lt))
  eighth_data g (suc n) k lt h =
      let p = both (nat_eq (bit_at (taken_out g) n) 1 || is_data_range i t (base_of g + n * (size_of g / 8)) (size_of g / 8)) (eighths_hold_data i t g n) h in
      ⊎_elim (λ e. subst (λ n. (bit_at (taken_out g) n ≡ 1) ⊎ (is_data_range i t (base_of g + n * (size_of g / 8)) (size_of g / 8) ≡ true)) (sym e) (one (nat_eq (bit_at (taken_out g) n) 1) (is_data_range i t (base_of g + n * (size_of g / 8)) (size_of g / 8)) p.0 (λ x. eqb-true (bit_at (taken_out g) n) 1 x))) (λ l. eighth_data g n k l p.1) (below k n lt)
    where
      one : (a b : Bool) {P : Type 0} → (a || b) ≡ true → (a ≡ true → P) → P ⊎ (b ≡ true)
      one true b h f = inl (f refl)
      one false b h f = inr h

      below : (k n : ℕ) → k < suc n → (k ≡ n) ⊎ (k < n)
      below k n lt = grind (arith, lt)

  -- of a block with eighths: the eighth of the address
  in_eighth : (s a : ℕ) → 8 ≤ s → (2 ^ s / 8 ≡ 2 ^ (s - 3)) × (a / 2 ^ s * 2 ^ s + a / 2 ^ (s - 3) % 8 * 2 ^ (s - 3) ≤ a) × (a < a / 2 ^ s * 2 ^ s + a / 2 ^ (s - 3) % 8 * 2 ^ (s - 3) + 2 ^ (s - 3))
  in_eighth s a h =
      let z : ℕ = 2 ^ (s - 3) in
      let e : s ≡ s - 3 + 3 = omega (arith, h) in
      let p : 2 ^ s ≡ z * 8 = ap (λ n. 2 ^ n) e ∙ pow-add 2 (s - 3) 3 in
      parts z (2 ^ s) p (pow_pos (s - 3))
    where
      parts : (z y : ℕ) → y ≡ z * 8 → 0 < z → (y / 8 ≡ z) × (a / y * y + a / z % 8 * z ≤ a) × (a < a / y * y + a / z % 8 * z + z)
      parts z y e pos =
          let d : ℕ = a / z in
          let d8 : a / y ≡ d / 8 = ap (λ y. a / y) e ∙ sym (div-div-eq-div-mul a z 8) in
          let m : a / y * y ≡ d / 8 * 8 * z = ap₂ (λ x y. x * y) d8 e ∙ (let q : d / 8 * (z * 8) ≡ d / 8 * 8 * z = grind arith in q) in
          let s : d / 8 * 8 * z + d % 8 * z ≡ d * z = whole d z in
          let c0 = div-add-mod' a z in
          let c1 = mod_below a z pos in
          (omega (arith, e), omega (arith, m, s, c0, c1), omega (arith, m, s, c0, c1))
        where
          whole : (d z : ℕ) → d / 8 * 8 * z + d % 8 * z ≡ d * z
          whole d z = let e : d / 8 * 8 + d % 8 ≡ d = omega arith in (let f : d / 8 * 8 * z + d % 8 * z ≡ (d / 8 * 8 + d % 8) * z = grind arith in f) ∙ ap (λ x. x * z) e

  -- what a region of data holds
  data_held : (n srd : ℕ) (rights : Rights) (g : Region) (a : ℕ) → n < 16 → Form n srd rights g → holds_data i t g ≡ true → Held g a → Apart a
  data_held n srd rights g a few f d h = either (nat_lt (size_log g) 8 && is_data_range i t (base_of g) (size_of g)) (nat_le 8 (size_log g) && eighths_hold_data i t g 8) d whole parted
    where
      b : (base_of g ≡ a / 2 ^ size_log g * 2 ^ size_log g) × (base_of g ≤ a) × (a < base_of g + 2 ^ size_log g)
      b = block_of n srd rights g a few f h

      either : (x y : Bool) {P : Type 0} → (x || y) ≡ true → (x ≡ true → P) → (y ≡ true → P) → P
      either true y h p q = p refl
      either false y h p q = q h

      whole : (nat_lt (size_log g) 8 && is_data_range i t (base_of g) (size_of g)) ≡ true → Apart a
      whole e = data_apart (base_of g) (size_of g) a (both (nat_lt (size_log g) 8) (is_data_range i t (base_of g) (size_of g)) e).1 b.1 b.2

      parted : (nat_le 8 (size_log g) && eighths_hold_data i t g 8) ≡ true → Apart a
      parted e = ⊎_elim (λ x. absurd (taken x)) (λ x. data_apart (base_of g + k * (size_of g / 8)) (size_of g / 8) a x low high) (eighth_data g 8 k small p.1)
        where
          p : (nat_le 8 (size_log g) ≡ true) × (eighths_hold_data i t g 8 ≡ true)
          p = both (nat_le 8 (size_log g)) (eighths_hold_data i t g 8) e

          eight : 8 ≤ size_log g
          eight = leb-true 8 (size_log g) p.0

          k : ℕ
          k = a / 2 ^ (size_log g - 3) % 8

          small : k < 8
          small = omega arith

          at : (2 ^ size_log g / 8 ≡ 2 ^ (size_log g - 3)) × (a / 2 ^ size_log g * 2 ^ size_log g + a / 2 ^ (size_log g - 3) % 8 * 2 ^ (size_log g - 3) ≤ a) × (a < a / 2 ^ size_log g * 2 ^ size_log g + a / 2 ^ (size_log g - 3) % 8 * 2 ^ (size_log g - 3) + 2 ^ (size_log g - 3))
          at = in_eighth (size_log g) a eight

          times : k * (size_of g / 8) ≡ a / 2 ^ (size_log g - 3) % 8 * 2 ^ (size_log g - 3)
          times = ap (λ x. a / 2 ^ (size_log g - 3) % 8 * x) at.0

          low : base_of g + k * (size_of g / 8) ≤ a
          low = sums_low (base_of g) (k * (size_of g / 8)) (a / 2 ^ size_log g * 2 ^ size_log g) (a / 2 ^ (size_log g - 3) % 8 * 2 ^ (size_log g - 3)) b.0 times at.1
            where
              sums_low : (b x c y : ℕ) → b ≡ c → x ≡ y → c + y ≤ a → b + x ≤ a
              sums_low b x c y e f l = omega (arith, e, f, l)

          high : a < base_of g + k * (size_of g / 8) + size_of g / 8
          high = sums_high (base_of g) (k * (size_of g / 8)) (size_of g / 8) (a / 2 ^ size_log g * 2 ^ size_log g) (a / 2 ^ (size_log g - 3) % 8 * 2 ^ (size_log g - 3)) (2 ^ (size_log g - 3)) b.0 times at.0 at.2
            where
              sums_high : (b x z c y v : ℕ) → b ≡ c → x ≡ y → z ≡ v → a < c + y + v → a < b + x + z
              sums_high b x z c y v e f g l = omega (arith, e, f, g, l)

          taken : bit_at (taken_out g) k ≡ 1 → ⊥
          taken x = let y : nat_lt 7 (size_log g) ≡ true = search (nat_tests, arith) in off (sym (both_yes (nat_lt 7 (size_log g)) (nat_eq (bit_at (taken_out g) k) 1) y (yes (bit_at (taken_out g) k) x)) ∙ h.kept)
            where
              both_yes : (a b : Bool) → a ≡ true → b ≡ true → (a && b) ≡ true
              both_yes true true h g = refl
              both_yes true false h g = cc
              both_yes false b h g = cc

              yes : (v : ℕ) → v ≡ 1 → nat_eq v 1 ≡ true
              yes v e = rw e refl

              off : true ≡ false → ⊥
              off h = cc

  -- ---- slots

  data_word : (r s z : ℕ) → s < 256 → z ≤ 32 → (r ≡ 0x13060001) ⊎ (r ≡ 0x12060001) → ((r + s * 2 ^ 8 + (z - 1) * 2) / 2 ^ 28 % 2 ≡ 1) × (((r + s * 2 ^ 8 + (z - 1) * 2) / 2 ^ 24 % 8 ≡ 3) ⊎ ((r + s * 2 ^ 8 + (z - 1) * 2) / 2 ^ 24 % 8 ≡ 2))
  data_word r s z a b (inl e) = (omega (arith, a, b, e), inl (omega (arith, a, b, e)))
  data_word r s z a b (inr e) = (omega (arith, a, b, e), inr (omega (arith, a, b, e)))

  cover_word : (z : ℕ) → z ≤ 32 → ((0x13010001 + 0 * 2 ^ 8 + (z - 1) * 2) / 2 ^ 28 % 2 ≡ 1) × ((0x13010001 + 0 * 2 ^ 8 + (z - 1) * 2) / 2 ^ 24 % 8 ≡ 3)
  cover_word z h = (omega (arith, h), omega (arith, h))

  byte : (g : Region) (a : ℕ) → g.rasr / 2 ^ 28 % 2 ≡ 1 → (permission g ≡ 3) ⊎ (permission g ≡ 2) → Apart a → IsSlotByte i t g a
  byte g a x (inl e) p = record { readable = rw e refl; no_code = rw (e, x) refl; off_flash = p.off_flash; off_stack = p.off_stack; off_block = p.off_block }
  byte g a x (inr e) p = record { readable = rw e refl; no_code = rw (e, x) refl; off_flash = p.off_flash; off_stack = p.off_stack; off_block = p.off_block }

  taken_small : (g : Region) → taken_out g < 256
  taken_small g = omega arith

  data_slot : (n r : ℕ) (rights : Rights) (g : Region) → n < 16 → rights_word rights ≡ r → (r ≡ 0x13060001) ⊎ (r ≡ 0x12060001) → has_form n (taken_out g) rights g ≡ true → holds_data i t g ≡ true → IsSlot i t g
  data_slot n r rights g few er kind h d a k =
      let f = form_of n (taken_out g) rights g h in
      let v = data_word r (taken_out g) (size_log g) (taken_small g) f.most kind in
      let e : g.rasr ≡ r + taken_out g * 2 ^ 8 + (size_log g - 1) * 2 = f.rasr ∙ ap (λ r. r + taken_out g * 2 ^ 8 + (size_log g - 1) * 2) er in
      byte g a (ap (λ x. x / 2 ^ 28 % 2) e ∙ v.0) (⊎_elim (λ x. inl (ap (λ x. x / 2 ^ 24 % 8) e ∙ x)) (λ x. inr (ap (λ x. x / 2 ^ 24 % 8) e ∙ x)) v.1) (data_held n (taken_out g) rights g a few f d (held_is g a k))

  cover_slot : (n : ℕ) (g : Region) → n < 16 → is_cover n g ≡ true → IsSlot i t g
  cover_slot n g few h a k =
      let p = both (has_form n 0 Device g) (is_inside (base_of g) (size_of g) 0x40000000 0x20000000) h in
      let f = form_of n 0 Device g p.0 in
      let v = cover_word (size_log g) f.most in
      let b = block_of n 0 Device g a few f (held_is g a k) in
      byte g a (ap (λ x. x / 2 ^ 28 % 2) f.rasr ∙ v.0) (inl (ap (λ x. x / 2 ^ 24 % 8) f.rasr ∙ v.1)) (cover_apart (base_of g) (size_of g) a ((decides_inside (base_of g) (size_of g) 0x40000000 0x20000000).0 p.1) b.1)

  free_slot : (n : ℕ) (g : Region) → is_free n g ≡ true → IsSlot i t g
  free_slot n g h a k =
      let p = both (nat_eq g.rbar (2 ^ 4 + n)) (nat_eq g.rasr 0) h in
      let z = eqb-true g.rasr 0 p.1 in
      let e = (held_is g a k).enabled in
      absurd (omega (arith, z, e))

  form_number : (n srd : ℕ) (rights : Rights) (g : Region) → n < 16 → has_form n srd rights g ≡ true → (g.rbar / 2 ^ 4 % 2 ≡ 1) × (g.rbar % 16 ≡ n)
  form_number n srd rights g few h = let f = form_of n srd rights g h in let r = f.rbar in (omega (arith, r, few), omega (arith, r, few))

  free_number : (n : ℕ) (g : Region) → n < 16 → is_free n g ≡ true → (g.rbar / 2 ^ 4 % 2 ≡ 1) × (g.rbar % 16 ≡ n)
  free_number n g few h = let p = both (nat_eq g.rbar (2 ^ 4 + n)) (nat_eq g.rasr 0) h in let r = eqb-true g.rbar (2 ^ 4 + n) p.0 in (omega (arith, r, few), omega (arith, r, few))

  slot_is : (n : ℕ) (g : Region) → n < 16 → is_slot i t n g ≡ true → IsSlot i t g × (g.rbar / 2 ^ 4 % 2 ≡ 1) × (g.rbar % 16 ≡ n)
  slot_is n g few h = ⊎_elim (λ x. let v = free_number n g few x in (free_slot n g x, v.0, v.1)) (λ y. ⊎_elim ram_slot (λ z. ⊎_elim read_only cover (or_cases (is_read_only i t n g) (is_cover n g) z)) (or_cases (is_data i t n g) (is_read_only i t n g || is_cover n g) y)) (or_cases (is_free n g) (is_data i t n g || (is_read_only i t n g || is_cover n g)) h)
    where
      ram_slot : is_data i t n g ≡ true → IsSlot i t g × (g.rbar / 2 ^ 4 % 2 ≡ 1) × (g.rbar % 16 ≡ n)
      ram_slot x = let p = both (has_form n (taken_out g) Ram g) (holds_data i t g) x in let v = form_number n (taken_out g) Ram g few p.0 in (data_slot n 0x13060001 Ram g few refl (inl refl) p.0 p.1, v.0, v.1)

      read_only : is_read_only i t n g ≡ true → IsSlot i t g × (g.rbar / 2 ^ 4 % 2 ≡ 1) × (g.rbar % 16 ≡ n)
      read_only x =
          let q = both i.closed (has_form n (taken_out g) Background g && holds_data i t g) x in
          let p = both (has_form n (taken_out g) Background g) (holds_data i t g) q.1 in
          let v = form_number n (taken_out g) Background g few p.0 in
          (data_slot n 0x12060001 Background g few refl (inr refl) p.0 p.1, v.0, v.1)

      cover : is_cover n g ≡ true → IsSlot i t g × (g.rbar / 2 ^ 4 % 2 ≡ 1) × (g.rbar % 16 ≡ n)
      cover x = let p = both (has_form n 0 Device g) (is_inside (base_of g) (size_of g) 0x40000000 0x20000000) x in let v = form_number n 0 Device g few p.0 in (cover_slot n g few x, v.0, v.1)

  slots_are_slots : (n : ℕ) (gs : List Region) → n + length gs ≤ 16 → are_slots i t n gs ≡ true → Each (IsSlot i t) gs × AreNumbered n gs
  slots_are_slots n [] few h = (tt, tt)
  slots_are_slots n (g ∷ gs) few h =
      let p = both (is_slot i t n g) (are_slots i t (suc n) gs) h in
      let s = slot_is n g (omega (arith, few)) p.0 in
      let r = slots_are_slots (suc n) gs (omega (arith, few)) p.1 in
      let e : suc n ≡ n + 1 = omega arith in
      ((s.0, r.0), (s.1, s.2, subst (λ n. AreNumbered n gs) e r.1))

  pub record CompFacts (c : CompRecord) : Type 0 where
    pub code : IsCode i c.code
    pub slots : Each (IsSlot i t) c.slots
    pub code_numbered : AreNumbered 2 (c.code ∷ [])
    pub slots_numbered : AreNumbered 4 c.slots

  pub comp_is : (c : CompRecord) → length c.slots ≤ 12 → is_compartment i t c ≡ true → CompFacts c
  comp_is c few h =
      let p = both (is_code i c.code) (are_slots i t 4 c.slots && (is_mask t c.mask && is_mask t c.reads)) h in
      let q = both (are_slots i t 4 c.slots) (is_mask t c.mask && is_mask t c.reads) p.1 in
      let s = slots_are_slots 4 c.slots (omega (arith, few)) q.0 in
      record { code = code_is i c.code p.0; slots = s.0; code_numbered = code_numbered i c.code p.0; slots_numbered = s.1 }

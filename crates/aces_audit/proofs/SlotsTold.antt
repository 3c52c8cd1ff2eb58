-- The word in the line of a slot, by the form of the slot.
use Rattle.std.proofs.Common.{◌≡◌, ℕ, ◌+◌, ◌-◌, ◌*◌, ◌/◌, ◌%◌, ◌^◌, ◌<◌, ◌⊎◌, inl, inr, true, ◌||◌, List, [], codes, nat_eq, ap, ◌∙◌, arith}
use Rattle.std.specs.Prelude.{if◌then◌else◌}
use Rattle.std.proofs.lemmas.Bool.{eqb-true, eq-eqb, ne_eqb, or_cases, and_parts as both}
use Rattle.machine_devices.specs.declared.image.Window.{Window}
use Rattle.machine_protection.specs.declared.region.Region.{Region}
use Rattle.machine_protection.specs.declared.words.Rights.{Rights}
use Rattle.machine_protection.specs.declared.words.Rights.TheVariants.{Background, Ram, Device}
use Rattle.machine_protection.specs.Regions.{size_log, is_of_legal_size}
use Rattle.machine_protection.specs.RegionWords.{rights_word}
use Rattle.monitor_model.specs.RegionChecks.{base_of, size_of, taken_out, has_form, holds_data, is_free, is_data, is_read_only, is_cover}
use Rattle.aces_audit.specs.SlotLines.{has_rights, slot_word, slot_line, used_line}
use Rattle.aces_audit.specs.Laws.{IsUsed, SlotsAreTold}

module _ (n : ℕ) (g : Region) where
  -- MPU_RASR of a region in form
  rasr_is : (srd : ℕ) (rights : Rights) → has_form n srd rights g ≡ true → g.rasr ≡ rights_word rights + srd * 2 ^ 8 + (size_log g - 1) * 2
  rasr_is srd rights e =
      let p = both (is_of_legal_size g) _ e in
      let q = both (nat_eq (base_of g % size_of g) 0) _ p.1 in
      let r = both (nat_eq g.rbar (base_of g + 2 ^ 4 + n)) _ q.1 in
      eqb-true g.rasr (rights_word rights + srd * 2 ^ 8 + (size_log g - 1) * 2) r.1

  -- the word by the bits above SRD
  of_data : g.rasr / 2 ^ 16 ≡ 0x1306 → slot_word g ≡ codes " data"
  of_data e = ap (λ b. if b then codes " data" else if has_rights Background g then codes " read" else codes " periph") (eq-eqb (g.rasr / 2 ^ 16) 0x1306 e)

  of_read : g.rasr / 2 ^ 16 ≡ 0x1206 → slot_word g ≡ codes " read"
  of_read e =
      ap (λ b. if b then codes " data" else if has_rights Background g then codes " read" else codes " periph") (ne_eqb (g.rasr / 2 ^ 16) 0x1306 (λ f. absurd (omega (arith, e, f))))
      ∙ ap (λ b. if b then codes " read" else codes " periph") (eq-eqb (g.rasr / 2 ^ 16) 0x1206 e)

  of_cover : g.rasr / 2 ^ 16 ≡ 0x1301 → slot_word g ≡ codes " periph"
  of_cover e =
      ap (λ b. if b then codes " data" else if has_rights Background g then codes " read" else codes " periph") (ne_eqb (g.rasr / 2 ^ 16) 0x1306 (λ f. absurd (omega (arith, e, f))))
      ∙ ap (λ b. if b then codes " read" else codes " periph") (ne_eqb (g.rasr / 2 ^ 16) 0x1206 (λ f. absurd (omega (arith, e, f))))

  module _ (ws : List Window) where
    has_line : 0 < g.rasr → slot_line ws n g ≡ used_line ws n g
    has_line more = ap (λ b. if b then [] else used_line ws n g) (ne_eqb g.rasr 0 (λ e. absurd (omega (arith, e, more))))

    data_told : has_form n (taken_out g) Ram g ≡ true → IsUsed ws n g (codes " data")
    data_told e =
        let is : g.rasr ≡ 0x13060001 + g.rasr / 2 ^ 8 % 2 ^ 8 * 2 ^ 8 + (size_log g - 1) * 2 = rasr_is (taken_out g) Ram e in
        record { line = has_line (omega (arith, is)); says = of_data (omega (arith, is)) }

    read_told : has_form n (taken_out g) Background g ≡ true → IsUsed ws n g (codes " read")
    read_told e =
        let is : g.rasr ≡ 0x12060001 + g.rasr / 2 ^ 8 % 2 ^ 8 * 2 ^ 8 + (size_log g - 1) * 2 = rasr_is (taken_out g) Background e in
        record { line = has_line (omega (arith, is)); says = of_read (omega (arith, is)) }

    cover_told : has_form n 0 Device g ≡ true → IsUsed ws n g (codes " periph")
    cover_told e =
        let is : g.rasr ≡ 0x13010001 + 0 * 2 ^ 8 + (size_log g - 1) * 2 = rasr_is 0 Device e in
        record { line = has_line (omega (arith, is)); says = of_cover (omega (arith, is)) }

    free_told : is_free n g ≡ true → slot_line ws n g ≡ []
    free_told e = ap (λ b. if b then [] else used_line ws n g) (both (nat_eq g.rbar (2 ^ 4 + n)) (nat_eq g.rasr 0) e).1

pub slots_are_told : SlotsAreTold
slots_are_told i t ws n g is = by_form (or_cases (is_free n g) _ is)
  where
    of_rest : (is_read_only i t n g ≡ true) ⊎ (is_cover n g ≡ true)
        → ((is_read_only i t n g ≡ true) × IsUsed ws n g (codes " read")) ⊎ ((is_cover n g ≡ true) × IsUsed ws n g (codes " periph"))
    of_rest (inl e) = inl (e, read_told n g ws (both (has_form n (taken_out g) Background g) (holds_data i t g) (both i.closed _ e).1).0)
    of_rest (inr e) = inr (e, cover_told n g ws (both (has_form n 0 Device g) _ e).0)

    of_used : (is_data i t n g ≡ true) ⊎ ((is_read_only i t n g || is_cover n g) ≡ true)
        → ((is_data i t n g ≡ true) × IsUsed ws n g (codes " data"))
        ⊎ (((is_read_only i t n g ≡ true) × IsUsed ws n g (codes " read")) ⊎ ((is_cover n g ≡ true) × IsUsed ws n g (codes " periph")))
    of_used (inl e) = inl (e, data_told n g ws (both (has_form n (taken_out g) Ram g) (holds_data i t g) e).0)
    of_used (inr e) = inr (of_rest (or_cases (is_read_only i t n g) _ e))

    by_form : (is_free n g ≡ true) ⊎ ((is_data i t n g || (is_read_only i t n g || is_cover n g)) ≡ true)
        → ((is_free n g ≡ true) × (slot_line ws n g ≡ []))
        ⊎ (((is_data i t n g ≡ true) × IsUsed ws n g (codes " data"))
        ⊎ (((is_read_only i t n g ≡ true) × IsUsed ws n g (codes " read")) ⊎ ((is_cover n g ≡ true) × IsUsed ws n g (codes " periph"))))
    by_form (inl e) = inl (e, free_told n g ws e)
    by_form (inr e) = inr (of_used (or_cases (is_data i t n g) _ e))

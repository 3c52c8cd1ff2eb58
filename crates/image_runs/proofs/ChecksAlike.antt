-- The checks of an image answer the same for as many other bytes of flash with the same page.
use Rattle.std.proofs.Common.{◌≡◌, ℕ, suc, ◌+◌, ◌-◌, ◌*◌, ◌≤◌, Bool, ◌&&◌, not, List, [], ◌∷◌, length, nat_eq, nat_le, Option, None, refl, sym, ap, ap₂, arith}
use Rattle.machine_protection.specs.declared.region.Region.{Region}
use Rattle.machine_protection.specs.declared.words.Rights.TheVariants.{Code}
use Rattle.base_ranges.specs.Ranges.{is_inside, are_apart}
use Rattle.machine_devices.specs.declared.image.Image.{Image}
use Rattle.machine_devices.specs.Rules.{block_size}
use Rattle.monitor_model.specs.declared.sound.AuditCheck.TheVariants as check
use Rattle.monitor_model.specs.declared.tables.CompRecord.{CompRecord}
use Rattle.monitor_model.specs.declared.tables.InitRecord.{InitRecord}
use Rattle.monitor_model.specs.declared.tables.Tables.{Tables}
use Rattle.monitor_model.specs.Layout.{page_size, head_size, head_at, compartment_size, compartments_at, initial_words_at, inits_at, area_end, tables_size}
use Rattle.monitor_model.specs.RegionChecks.{base_of, size_of, has_form, is_slot, are_slots, is_mask, is_compartment}
use Rattle.monitor_model.specs.Checks.{must, and_then, each_record, header_fails, tables_fail, code_fails, regions_fail, sites_fail, lends_fail, is_init, inits_from}
use Rattle.monitor_model.specs.MonitorCode.{MonitorCode}
use Rattle.monitor_model.specs.Sound.{unless, first_failure}
use Rattle.image_runs.proofs.Alike.{Alike, difference_same}
use Rattle.image_runs.specs.OtherCode.{with_flash}

each_same : {A : Type 0} (f g : A → Bool) (a z : ℕ) (xs : List A) → ((x : A) → f x ≡ g x) → each_record f a z xs ≡ each_record g a z xs
each_same f g a z [] h = refl
each_same f g a z (x ∷ xs) h = ap₂ (λ b o. and_then (must b a) o) (h x) (each_same f g (a + z) z xs h)

module _ (i : Image) (t : Tables) (flash : List ℕ) (long : length flash ≡ length i.flash) where
  abbrev j : Image
  j = with_flash i flash

  header_same : header_fails j ≡ header_fails i
  header_same =
      ap (λ n. must (not (nat_eq i.monitor 0) && (not (nat_eq i.stack_size 0) && (are_apart i.monitor block_size i.stack_base i.stack_size && nat_le (page_size + head_size) n))) i.flash_base) long

  tables_same : tables_fail j t ≡ tables_fail i t
  tables_same =
      let last : ℕ → Option ℕ = λ n. must (is_inside t.base (tables_size t) i.flash_base n && nat_le (area_end t) (t.base + tables_size t)) (head_at t) in
      let front : Option ℕ → Option ℕ = λ o.
      and_then (must (nat_le 1 (length t.comps) && nat_le (length t.comps) 64) (head_at t))
      (and_then (must (nat_le (length t.sites) 4096) (head_at t + 4))
      (and_then (must (nat_le (length t.targets) (64 * length t.sites)) (head_at t + 8))
      (and_then (must (nat_le (length t.lends) 32) (head_at t + 12))
      (and_then (must (nat_eq t.stack.base i.stack_base) (head_at t + 20))
      (and_then (must (nat_eq t.stack.size i.stack_size) (head_at t + 24))
      (and_then (must (nat_eq t.monitor i.monitor) (head_at t + 28)) o)))))) in
      ap (λ n. front (last n)) long

  -- ---- regions

  slot_same : (n : ℕ) (g : Region) → is_slot j t n g ≡ is_slot i t n g
  slot_same n g = refl

  slots_same : (n : ℕ) (gs : List Region) → are_slots j t n gs ≡ are_slots i t n gs
  slots_same n [] = refl
  slots_same n (g ∷ gs) = ap₂ (λ a b. a && b) (slot_same n g) (slots_same (suc n) gs)

  compartment_same : (c : CompRecord) → is_compartment j t c ≡ is_compartment i t c
  compartment_same c =
      ap₂ (λ n o. (has_form 2 0 Code c.code && is_inside (base_of c.code) (size_of c.code) i.flash_base n) && (o && (is_mask t c.mask && is_mask t c.reads))) long (slots_same 4 c.slots)

  regions_same : regions_fail j t ≡ regions_fail i t
  regions_same = each_same (is_compartment j t) (is_compartment i t) (compartments_at t) (compartment_size t) t.comps compartment_same

  -- ---- ranges with initial words

  inits_from_same : (w a : ℕ) (ns : List InitRecord) → inits_from j t w a ns ≡ inits_from i t w a ns
  inits_from_same w a [] = refl
  inits_from_same w a (n ∷ ns) = ap (λ o. and_then (must (is_init i t w n) a) o) (inits_from_same (w + (n.end - n.at)) (a + 12) ns)

  -- ---- all of them

  pub failures_same : (code : MonitorCode) → length (code.page t) ≤ length i.flash → Alike (length (code.page t)) i.flash flash
      → first_failure code j t ≡ first_failure code i t
  unfolding first_failure
  failures_same code room same =
      let c : code_fails code.page j t ≡ code_fails code.page i t = sym (difference_same (code.page t) i.flash flash t.base room (omega (arith, room, long)) same) in
      ap₂ (λ h r. unless check.Header h r) header_same
      (ap₂ (λ h r. unless check.Tables h r) tables_same
      (ap₂ (λ h r. unless check.Code h r) c
      (ap₂ (λ h r. unless check.Regions h r) regions_same
      (ap (λ r. unless check.Sites (sites_fail t) (unless check.Lends (lends_fail t) r)) (ap (λ h. unless check.Inits h None) (inits_from_same (initial_words_at t) (inits_at t) t.inits))))))

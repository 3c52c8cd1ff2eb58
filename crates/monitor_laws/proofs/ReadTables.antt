-- The tables that are read from an image's flash stand there.
use Rattle.std.proofs.Common.{◌≡◌, ℕ, zero, suc, ◌+◌, ◌-◌, ◌*◌, ◌≤◌, List, [], ◌∷◌, ◌++◌, length, min, take, drop, refl, sym, ap, ap₂, ◌∙◌, subst, arith, length-append}
use Rattle.std.specs.Prelude.{flat_map, sum_by}
use Rattle.base_words.specs.Bytes.{read}
use Rattle.machine_devices.specs.declared.image.Image.{Image}
use Rattle.machine_model.specs.Stack.{words_at}
use Rattle.base_laws.specs.Lists.{Each}
use Rattle.monitor_model.specs.declared.tables.CompRecord.{CompRecord}
use Rattle.monitor_model.specs.declared.tables.Tables.{Tables}
use Rattle.std.proofs.lemmas.List.{take-append-drop, length-take}
use Rattle.std.proofs.lemmas.Bool.Decides.{nat_tests}
use Rattle.base_words.proofs.Bytes.{read-append_right}
use Rattle.monitor_model.specs.Records.{words_in, slots_of_first, number_of_slots}
use Rattle.monitor_model.specs.Layout.{head_at, compartment_size, area_end, initial_word_count}
use Rattle.monitor_model.specs.Area.{HasTables}
use Rattle.monitor_laws.proofs.Tables.{least_of}
use Rattle.monitor_laws.proofs.Numbers.{product}
use Rattle.monitor_model.specs.Area.{region_words, compartment_words, site_words, target_words, init_words, head, area}
use Rattle.monitor_model.specs.FromFlash.{records, word_at, region_at, comp_record_at, site_record_at, target_record_at, init_record_at, comp_count, site_count, target_count, lend_count, init_count, sites_offset, targets_offset, lends_offset, inits_offset, tables_behind}
use Rattle.monitor_model.specs.MonitorCode.{MonitorCode}

pub length-records : {A : Type 0} (f : ℕ → A) (z n o : ℕ) → length (records f z n o) ≡ n
length-records f z zero o = refl
length-records f z (suc n) o = let h = length-records f z n (o + z) in omega (arith, h)

module _ (bytes : List ℕ) where
  -- these words are read from an offset on
  abbrev pub Reads : (offset : ℕ) → List ℕ → Type 0
  Reads o [] = Unit {0}
  Reads o (w ∷ ws) = (read 4 o bytes ≡ w) × Reads (o + 4) ws

  joined : (o : ℕ) (xs ys : List ℕ) → Reads o xs → Reads (o + 4 * length xs) ys → Reads o (xs ++ ys)
  joined o [] ys a b = let e : o + 4 * 0 ≡ o = omega arith in subst (λ n. Reads n ys) e b
  joined o (x ∷ xs) ys a b =
      let e : o + 4 * length (x ∷ xs) ≡ o + 4 + 4 * length xs = omega arith in
      (a.0, joined (o + 4) xs ys a.1 (subst (λ n. Reads n ys) e b))

  pub moved : (o p : ℕ) (ws : List ℕ) → o ≡ p → Reads o ws → Reads p ws
  moved o p ws e h = subst (λ n. Reads n ws) e h

  -- words of records, each of m words
  of_records : {A : Type 0} (f : A → List ℕ) (g : ℕ → A) (z m n o : ℕ) → z ≡ 4 * m → ((o : ℕ) → Reads o (f (g o))) → ((o : ℕ) → length (f (g o)) ≡ m) → Reads o (flat_map f (records g z n o)) × (length (flat_map f (records g z n o)) ≡ m * n)
  of_records f g z m zero o e h l = (tt, (let p : 0 ≡ m * 0 = grind arith in p))
  of_records f g z m (suc n) o e h l =
      let r = of_records f g z m n (o + z) e h l in
      let c = l o in
      let k = length-append (f (g o)) (flat_map f (records g z n (o + z))) in
      (joined o (f (g o)) (flat_map f (records g z n (o + z))) (h o) (moved (o + z) (o + 4 * length (f (g o))) _ (offset c e) r.0), whole c k r.1)
    where
      offset : length (f (g o)) ≡ m → z ≡ 4 * m → o + z ≡ o + 4 * length (f (g o))
      offset c e = omega (arith, c, e)

      whole : length (f (g o)) ≡ m → length (f (g o) ++ flat_map f (records g z n (o + z))) ≡ length (f (g o)) + length (flat_map f (records g z n (o + z))) → length (flat_map f (records g z n (o + z))) ≡ m * n → length (f (g o) ++ flat_map f (records g z n (o + z))) ≡ m * suc n
      whole c k r = let p : m * suc n ≡ m + m * n = grind arith in omega (arith, c, k, r, p)

  of_words : (n o : ℕ) → Reads o (records (word_at bytes) 4 n o)
  of_words zero o = tt
  of_words (suc n) o = (refl, of_words n (o + 4))

  next_is : (o : ℕ) → o + 4 + 4 ≡ o + 8
  next_is o = omega arith

  of_region : (o : ℕ) → Reads o (region_words (region_at bytes o))
  of_region o = (refl, (refl, tt))

  of_site : (o : ℕ) → Reads o (site_words (site_record_at bytes o))
  of_site o = (refl, (refl, (ap (λ n. read 4 n bytes) (next_is o), tt)))

  of_target : (o : ℕ) → Reads o (target_words (target_record_at bytes o))
  of_target o = (refl, (refl, tt))

  of_init : (o : ℕ) → Reads o (init_words (init_record_at bytes o))
  of_init o = (refl, (refl, (ap (λ n. read 4 n bytes) (next_is o), tt)))

  of_comp : (s o : ℕ) → Reads o (compartment_words (comp_record_at bytes s o)) × (length (compartment_words (comp_record_at bytes s o)) ≡ 2 * s + 4)
  of_comp s o =
      let c : CompRecord = comp_record_at bytes s o in
      let r = of_records region_words (region_at bytes) 8 2 s (o + 8) refl of_region (λ o. refl) in
      let l = r.1 in
      let k = length-append (flat_map region_words c.slots) (c.mask ∷ c.reads ∷ []) in
      let e1 : o + 8 + 4 * length (flat_map region_words c.slots) ≡ o + 8 + 8 * s = omega (arith, l) in
      let e2 : o + 8 + 4 * length (flat_map region_words c.slots) + 4 ≡ o + 12 + 8 * s = omega (arith, l) in
      let e3 : o + 8 ≡ o + 4 * length (region_words c.code) = omega arith in (
        joined o (region_words c.code) (flat_map region_words c.slots ++ c.mask ∷ c.reads ∷ []) (of_region o)
            (moved (o + 8) (o + 4 * length (region_words c.code)) _ e3
            (joined (o + 8) (flat_map region_words c.slots) (c.mask ∷ c.reads ∷ []) r.0 (ap (λ n. read 4 n bytes) e1, (ap (λ n. read 4 n bytes) e2, tt)))),
        omega (arith, l, k),
      )

pub each_of_records : {A : Type 0} (P : A → Type 0) (g : ℕ → A) (z n o : ℕ) → ((o : ℕ) → P (g o)) → Each P (records g z n o)
each_of_records P g z zero o h = tt
each_of_records P g z (suc n) o h = (h o, each_of_records P g z n (o + z) h)

slots_first : (bytes : List ℕ) (s z n o : ℕ) → 1 ≤ n → slots_of_first (records (comp_record_at bytes s) z n o) ≡ s
slots_first bytes s z zero o h = absurd (omega (arith, h))
slots_first bytes s z (suc n) o h = length-records (region_at bytes) 8 s (o + 8)

module _ (code : MonitorCode) (i : Image) (room : 4096 + 32 ≤ length i.flash) where
  abbrev pub bytes : List ℕ
  bytes = drop 4096 i.flash

  abbrev pub slots : ℕ
  slots = i.regions - 4

  abbrev pub T : Tables
  T = tables_behind code i bytes

  -- a word behind the page
  shifted : (o : ℕ) → read 4 (4096 + o) i.flash ≡ read 4 o bytes
  shifted o =
      ap (λ l. read 4 (4096 + o) l) (sym (take-append-drop 4096 i.flash))
      ∙ read-append_right 4 (4096 + o) o (take 4096 i.flash) bytes (let l = length-take 4096 i.flash in let m = least_of (length i.flash) 4096 (omega (arith, room)) in lengths l m)
    where
      lengths : length (take 4096 i.flash) ≡ min 4096 (length i.flash) → min (length i.flash) 4096 ≡ 4096 → 4096 + o ≡ length (take 4096 i.flash) + o
      lengths l m = let c : min 4096 (length i.flash) ≡ 4096 = search (arith, nat_tests) in omega (arith, l, c)

  words_of : (ws : List ℕ) (o : ℕ) → Reads bytes o ws → words_at (length ws) (4096 + o) i.flash ≡ ws
  unfolding words_at
  words_of [] o h = refl
  words_of (w ∷ ws) o h = ap₂ (λ a b. a ∷ b) (shifted o ∙ h.0) ((let e : 4096 + o + 4 ≡ 4096 + (o + 4) = omega arith in ap (λ n. words_at (length ws) n i.flash) e) ∙ words_of ws (o + 4) h.1)

  comps_read : Reads bytes 32 (flat_map compartment_words T.comps) × (length (flat_map compartment_words T.comps) ≡ (2 * slots + 4) * comp_count bytes)
  comps_read = of_records bytes compartment_words (comp_record_at bytes slots) (8 * slots + 16) (2 * slots + 4) (comp_count bytes) 32 (omega arith) (λ o. (of_comp bytes slots o).0) (λ o. (of_comp bytes slots o).1)

  sites_read : Reads bytes (sites_offset bytes slots) (flat_map site_words T.sites) × (length (flat_map site_words T.sites) ≡ 3 * site_count bytes)
  sites_read = of_records bytes site_words (site_record_at bytes) 12 3 (site_count bytes) (sites_offset bytes slots) refl (of_site bytes) (λ o. refl)

  targets_read : Reads bytes (targets_offset bytes slots) (flat_map target_words T.targets) × (length (flat_map target_words T.targets) ≡ 2 * target_count bytes)
  targets_read = of_records bytes target_words (target_record_at bytes) 8 2 (target_count bytes) (targets_offset bytes slots) refl (of_target bytes) (λ o. refl)

  inits_are_read : Reads bytes (inits_offset bytes slots) (flat_map init_words T.inits) × (length (flat_map init_words T.inits) ≡ 3 * init_count bytes)
  inits_are_read = of_records bytes init_words (init_record_at bytes) 12 3 (init_count bytes) (inits_offset bytes slots) refl (of_init bytes) (λ o. refl)

  lends_length : length T.lends ≡ lend_count bytes
  lends_length = length-records (word_at bytes) 4 (lend_count bytes) (lends_offset bytes slots)

  head_read : Reads bytes 0 (head T)
  head_read =
      (sym (length-records (comp_record_at bytes slots) (8 * slots + 16) (comp_count bytes) 32), (sym (length-records (site_record_at bytes) 12 (site_count bytes) (sites_offset bytes slots)), (sym (length-records (target_record_at bytes) 8 (target_count bytes) (targets_offset bytes slots)), (sym lends_length, (sym (length-records (init_record_at bytes) 12 (init_count bytes) (inits_offset bytes slots)), (refl, (refl, (refl, tt))))))))

  at_sites : sites_offset bytes slots ≡ 32 + 4 * length (flat_map compartment_words T.comps)
  at_sites = let l = comps_read.1 in let p = product slots (comp_count bytes) in omega (arith, l, p)

  at_targets : targets_offset bytes slots ≡ 32 + 4 * length (flat_map compartment_words T.comps) + 4 * length (flat_map site_words T.sites)
  at_targets = let a = at_sites in let l = sites_read.1 in omega (arith, a, l)

  at_lends : lends_offset bytes slots ≡ 32 + 4 * length (flat_map compartment_words T.comps) + 4 * length (flat_map site_words T.sites) + 4 * length (flat_map target_words T.targets)
  at_lends = let a = at_targets in let l = targets_read.1 in omega (arith, a, l)

  at_inits : inits_offset bytes slots ≡ 32 + 4 * length (flat_map compartment_words T.comps) + 4 * length (flat_map site_words T.sites) + 4 * length (flat_map target_words T.targets) + 4 * length T.lends
  at_inits = let a = at_lends in let l = lends_length in omega (arith, a, l)

  at_words : inits_offset bytes slots + 12 * init_count bytes ≡ 32 + 4 * length (flat_map compartment_words T.comps) + 4 * length (flat_map site_words T.sites) + 4 * length (flat_map target_words T.targets) + 4 * length T.lends + 4 * length (flat_map init_words T.inits)
  at_words = let a = at_inits in let l = inits_are_read.1 in omega (arith, a, l)

  area_read : Reads bytes 0 (area T)
  area_read =
      joined bytes 0 (head T) _ head_read
      (joined bytes 32 (flat_map compartment_words T.comps) _ comps_read.0
      (joined bytes (32 + 4 * length (flat_map compartment_words T.comps)) (flat_map site_words T.sites) _ (moved bytes _ _ _ at_sites sites_read.0)
      (joined bytes (32 + 4 * length (flat_map compartment_words T.comps) + 4 * length (flat_map site_words T.sites)) (flat_map target_words T.targets) _ (moved bytes _ _ _ at_targets targets_read.0)
      (joined bytes (32 + 4 * length (flat_map compartment_words T.comps) + 4 * length (flat_map site_words T.sites) + 4 * length (flat_map target_words T.targets)) T.lends _ (moved bytes _ _ _ at_lends (of_words bytes (lend_count bytes) (lends_offset bytes slots)))
      (joined bytes (32 + 4 * length (flat_map compartment_words T.comps) + 4 * length (flat_map site_words T.sites) + 4 * length (flat_map target_words T.targets) + 4 * length T.lends) (flat_map init_words T.inits) T.words (moved bytes _ _ _ at_inits inits_are_read.0)
      (moved bytes _ _ _ at_words (of_words bytes (sum_by words_in T.inits) (inits_offset bytes slots + 12 * init_count bytes))))))))

  -- the whole area is as long as is counted
  pub area_length : 1 ≤ length T.comps → head_at T + 4 * length (area T) ≡ area_end T
  unfolding initial_word_count
  area_length some =
      let c = comps_read.1 in
      let s = sites_read.1 in
      let g = targets_read.1 in
      let n = inits_are_read.1 in
      let w = length-records (word_at bytes) 4 (sum_by words_in T.inits) (inits_offset bytes slots + 12 * init_count bytes) in
      let l1 = length-append (flat_map init_words T.inits) T.words in
      let l2 = length-append T.lends (flat_map init_words T.inits ++ T.words) in
      let l3 = length-append (flat_map target_words T.targets) (T.lends ++ (flat_map init_words T.inits ++ T.words)) in
      let l4 = length-append (flat_map site_words T.sites) (flat_map target_words T.targets ++ (T.lends ++ (flat_map init_words T.inits ++ T.words))) in
      let l5 = length-append (flat_map compartment_words T.comps) (flat_map site_words T.sites ++ (flat_map target_words T.targets ++ (T.lends ++ (flat_map init_words T.inits ++ T.words)))) in
      let k = comps_count in
      let q = slots_first bytes slots (8 * slots + 16) (comp_count bytes) 32 (omega (arith, some, k)) in
      let p = product slots (comp_count bytes) in
      let e : compartment_size T * length T.comps ≡ (8 * slots + 16) * comp_count bytes = ap₂ (λ a b. (8 * a + 16) * b) q k in
      let m1 = length-records (site_record_at bytes) 12 (site_count bytes) (sites_offset bytes slots) in
      let m2 = length-records (target_record_at bytes) 8 (target_count bytes) (targets_offset bytes slots) in
      let m3 = length-records (init_record_at bytes) 12 (init_count bytes) (inits_offset bytes slots) in
      omega (arith, c, s, g, n, w, l1, l2, l3, l4, l5, e, p, m1, m2, m3)
    where
      comps_count : length T.comps ≡ comp_count bytes
      comps_count = length-records (comp_record_at bytes slots) (8 * slots + 16) (comp_count bytes) 32

  pub has_tables : 1 ≤ length T.comps → area_end T ≤ i.flash_base + length i.flash → HasTables i T
  has_tables some fits = record {
    from_base = omega arith;
    inside = let l = area_length some in omega (arith, l, fits);
    words_are = (let e : head_at T - i.flash_base ≡ 4096 + 0 = omega arith in ap (λ n. words_at (length (area T)) n i.flash) e) ∙ words_of (area T) 0 area_read;
  }

  pub slot_count : 1 ≤ length T.comps → number_of_slots T ≡ slots
  slot_count some =
      let k = length-records (comp_record_at bytes slots) (8 * slots + 16) (comp_count bytes) 32 in
      slots_first bytes slots (8 * slots + 16) (comp_count bytes) 32 (omega (arith, some, k))

  pub each_count : Each (λ (c : CompRecord). length c.slots ≡ slots) T.comps
  each_count = each_of_records (λ (c : CompRecord). length c.slots ≡ slots) (comp_record_at bytes slots) (8 * slots + 16) (comp_count bytes) 32 (λ o. length-records (region_at bytes) 8 slots (o + 8))

  pub word_total : length T.words ≡ initial_word_count T
  unfolding initial_word_count
  word_total = length-records (word_at bytes) 4 (sum_by words_in T.inits) (inits_offset bytes slots + 12 * init_count bytes)

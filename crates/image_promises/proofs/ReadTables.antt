-- Tables that are read from the flash of an image are those whose words stand there.
use Rattle.std.proofs.Common.{◌≡◌, ℕ, ◌+◌, ◌-◌, ◌*◌, List, [], ◌∷◌, ◌++◌, length, drop, flat_map, sum_by, refl, sym, ap, ap₂, ◌∙◌, arith, length-append}
use Rattle.base_laws.specs.Lists.{Each}
use Rattle.machine_devices.specs.declared.image.Image.{Image}
use Rattle.monitor_model.specs.declared.tables.CompRecord.{CompRecord}
use Rattle.monitor_model.specs.declared.tables.SiteRecord.{SiteRecord}
use Rattle.monitor_model.specs.declared.tables.TargetRecord.{TargetRecord}
use Rattle.monitor_model.specs.declared.tables.InitRecord.{InitRecord}
use Rattle.monitor_model.specs.declared.tables.Tables.{Tables}
use Rattle.monitor_model.specs.Records.{words_in}
use Rattle.monitor_model.specs.Layout.{initial_word_count}
use Rattle.monitor_model.specs.Area.{compartment_words, site_words, target_words, init_words, head, area}
use Rattle.monitor_model.specs.MonitorCode.{MonitorCode}
use Rattle.monitor_model.specs.FromFlash.{records, word_at, comp_record_at, site_record_at, target_record_at, init_record_at, comp_count, site_count, target_count, lend_count, init_count, sites_offset, targets_offset, lends_offset, inits_offset, moved_word_at, tables_behind, tables_of}
use Rattle.image_promises.proofs.Reading.{front, back, comps_read, sites_read, targets_read, words_read, inits_are_read, comps_long}
use Rattle.monitor_laws.proofs.ReadTables.{Reads, moved}

-- two tables of which each part is the same
pub record AreAlike (t u : Tables) : Type 0 where
  pub base : t.base ≡ u.base
  pub comps : t.comps ≡ u.comps
  pub sites : t.sites ≡ u.sites
  pub targets : t.targets ≡ u.targets
  pub lends : t.lends ≡ u.lends
  pub inits : t.inits ≡ u.inits
  pub words : t.words ≡ u.words
  pub stack : t.stack ≡ u.stack
  pub monitor : t.monitor ≡ u.monitor
  pub main : t.main ≡ u.main
  pub main_comp : t.main_comp ≡ u.main_comp
  pub closed : t.closed ≡ u.closed

alike : (t u : Tables) → AreAlike t u → t ≡ u
alike t u a =
    ap₂ (λ x y. record t { base = x; comps = y }) a.base a.comps
    ∙ ap₂ (λ x y. record t { base = u.base; comps = u.comps; sites = x; targets = y }) a.sites a.targets
    ∙ ap₂ (λ x y. record t { base = u.base; comps = u.comps; sites = u.sites; targets = u.targets; lends = x; inits = y }) a.lends a.inits
    ∙ ap₂ (λ x y. record t { base = u.base; comps = u.comps; sites = u.sites; targets = u.targets; lends = u.lends; inits = u.inits; words = x; stack = y }) a.words a.stack
    ∙ ap₂ (λ x y. record u { monitor = x; main = y; main_comp = t.main_comp; closed = t.closed }) a.monitor a.main
    ∙ ap₂ (λ x y. record u { main_comp = x; closed = y }) a.main_comp a.closed

-- what the flash of an image has of these tables, and what stands in the image itself
pub record StandIn (code : MonitorCode) (i : Image) (t : Tables) : Type 0 where
  pub base : t.base ≡ i.flash_base
  pub closed : t.closed ≡ i.closed
  pub slots : Each (λ (c : CompRecord). length c.slots ≡ i.regions - 4) t.comps
  pub words : Reads (drop 4096 i.flash) 0 (area t)
  pub counted : initial_word_count t ≡ length t.words
  pub main : moved_word_at code.main_entry_at i.flash ≡ t.main
  pub main_comp : moved_word_at code.main_compartment_at i.flash ≡ t.main_comp

module _ (code : MonitorCode) (i : Image) (t : Tables) (in_it : StandIn code i t) where
  abbrev bytes : List ℕ
  bytes = drop 4096 i.flash

  abbrev slots : ℕ
  slots = i.regions - 4

  -- ---- the words of each kind of record, from its offset on

  abbrev inits_and_words : List ℕ
  inits_and_words = flat_map init_words t.inits ++ t.words

  abbrev from_lends : List ℕ
  from_lends = t.lends ++ inits_and_words

  abbrev from_targets : List ℕ
  from_targets = flat_map target_words t.targets ++ from_lends

  abbrev from_sites : List ℕ
  from_sites = flat_map site_words t.sites ++ from_targets

  abbrev from_comps : List ℕ
  from_comps = flat_map compartment_words t.comps ++ from_sites

  in_head : Reads bytes 0 (head t)
  in_head = front bytes 0 (head t) from_comps in_it.words

  comps_counted : comp_count bytes ≡ length t.comps
  comps_counted = in_head.0

  sites_counted : site_count bytes ≡ length t.sites
  sites_counted = in_head.1.0

  targets_counted : target_count bytes ≡ length t.targets
  targets_counted = in_head.1.1.0

  lends_counted : lend_count bytes ≡ length t.lends
  lends_counted = in_head.1.1.1.0

  inits_counted : init_count bytes ≡ length t.inits
  inits_counted = in_head.1.1.1.1.0

  -- so many words of records that have so many each
  flat_length : {A : Type 0} (words : A → List ℕ) (z : ℕ) → ((x : A) → length (words x) ≡ z) → (xs : List A) → length (flat_map words xs) ≡ z * length xs
  flat_length words z e [] = grind arith
  flat_length words z e (x ∷ xs) =
      let h = flat_length words z e xs in
      let l = length-append (words x) (flat_map words xs) in
      let one = e x in
      grind (arith, h, l, one)

  comps_at : Reads bytes 32 from_comps
  comps_at = moved bytes (0 + 4 * 8) 32 from_comps refl (back bytes 0 (head t) from_comps in_it.words)

  at_sites : 32 + 4 * length (flat_map compartment_words t.comps) ≡ sites_offset bytes slots
  at_sites =
      let l = comps_long slots t.comps in_it.slots in
      let n : (8 * slots + 16) * comp_count bytes ≡ (8 * slots + 16) * length t.comps = ap (λ n. (8 * slots + 16) * n) comps_counted in
      omega (arith, l, n)

  sites_at : Reads bytes (sites_offset bytes slots) from_sites
  sites_at = moved bytes (32 + 4 * length (flat_map compartment_words t.comps)) (sites_offset bytes slots) from_sites at_sites (back bytes 32 (flat_map compartment_words t.comps) from_sites comps_at)

  targets_at : Reads bytes (targets_offset bytes slots) from_targets
  targets_at =
      let l = flat_length site_words 3 (λ (s : SiteRecord). refl) t.sites in
      let n = sites_counted in
      moved bytes (sites_offset bytes slots + 4 * length (flat_map site_words t.sites)) (targets_offset bytes slots) from_targets (omega (arith, l, n))
      (back bytes (sites_offset bytes slots) (flat_map site_words t.sites) from_targets sites_at)

  lends_at : Reads bytes (lends_offset bytes slots) from_lends
  lends_at =
      let l = flat_length target_words 2 (λ (g : TargetRecord). refl) t.targets in
      let n = targets_counted in
      moved bytes (targets_offset bytes slots + 4 * length (flat_map target_words t.targets)) (lends_offset bytes slots) from_lends (omega (arith, l, n))
      (back bytes (targets_offset bytes slots) (flat_map target_words t.targets) from_lends targets_at)

  inits_at : Reads bytes (inits_offset bytes slots) inits_and_words
  inits_at =
      let n = lends_counted in
      moved bytes (lends_offset bytes slots + 4 * length t.lends) (inits_offset bytes slots) inits_and_words (omega (arith, n)) (back bytes (lends_offset bytes slots) t.lends inits_and_words lends_at)

  words_at : Reads bytes (inits_offset bytes slots + 12 * init_count bytes) t.words
  words_at =
      let l = flat_length init_words 3 (λ (r : InitRecord). refl) t.inits in
      let n = inits_counted in
      moved bytes (inits_offset bytes slots + 4 * length (flat_map init_words t.inits)) (inits_offset bytes slots + 12 * init_count bytes) t.words (omega (arith, l, n))
      (back bytes (inits_offset bytes slots) (flat_map init_words t.inits) t.words inits_at)

  -- ---- the records that are read

  read_comps : records (comp_record_at bytes slots) (8 * slots + 16) (comp_count bytes) 32 ≡ t.comps
  read_comps =
      ap (λ n. records (comp_record_at bytes slots) (8 * slots + 16) n 32) comps_counted
      ∙ comps_read bytes slots t.comps 32 in_it.slots (front bytes 32 (flat_map compartment_words t.comps) from_sites comps_at)

  read_sites : records (site_record_at bytes) 12 (site_count bytes) (sites_offset bytes slots) ≡ t.sites
  read_sites =
      ap (λ n. records (site_record_at bytes) 12 n (sites_offset bytes slots)) sites_counted
      ∙ sites_read bytes t.sites (sites_offset bytes slots) (front bytes (sites_offset bytes slots) (flat_map site_words t.sites) from_targets sites_at)

  read_targets : records (target_record_at bytes) 8 (target_count bytes) (targets_offset bytes slots) ≡ t.targets
  read_targets =
      ap (λ n. records (target_record_at bytes) 8 n (targets_offset bytes slots)) targets_counted
      ∙ targets_read bytes t.targets (targets_offset bytes slots) (front bytes (targets_offset bytes slots) (flat_map target_words t.targets) from_lends targets_at)

  read_lends : records (word_at bytes) 4 (lend_count bytes) (lends_offset bytes slots) ≡ t.lends
  read_lends =
      ap (λ n. records (word_at bytes) 4 n (lends_offset bytes slots)) lends_counted
      ∙ words_read bytes t.lends (lends_offset bytes slots) (front bytes (lends_offset bytes slots) t.lends inits_and_words lends_at)

  read_inits : records (init_record_at bytes) 12 (init_count bytes) (inits_offset bytes slots) ≡ t.inits
  read_inits =
      ap (λ n. records (init_record_at bytes) 12 n (inits_offset bytes slots)) inits_counted
      ∙ inits_are_read bytes t.inits (inits_offset bytes slots) (front bytes (inits_offset bytes slots) (flat_map init_words t.inits) t.words inits_at)

  read_words : records (word_at bytes) 4 (sum_by words_in (records (init_record_at bytes) 12 (init_count bytes) (inits_offset bytes slots))) (inits_offset bytes slots + 12 * init_count bytes) ≡ t.words
  unfolding initial_word_count
  read_words =
      ap (λ n. records (word_at bytes) 4 n (inits_offset bytes slots + 12 * init_count bytes)) (ap (sum_by words_in) read_inits ∙ in_it.counted)
      ∙ words_read bytes t.words (inits_offset bytes slots + 12 * init_count bytes) words_at

  read_stack : (tables_behind code i bytes).stack ≡ t.stack
  read_stack = let h = in_head.1.1.1.1.1 in ap₂ (λ x y. record { base = x; size = y }) h.0 h.1.0

  pub same_tables : t ≡ tables_of code i
  unfolding tables_of
  same_tables = alike t (tables_behind code i bytes) (record {
    base = in_it.base;
    comps = sym read_comps;
    sites = sym read_sites;
    targets = sym read_targets;
    lends = sym read_lends;
    inits = sym read_inits;
    words = sym read_words;
    stack = sym read_stack;
    monitor = sym (in_head.1.1.1.1.1.1.1.0);
    main = sym in_it.main;
    main_comp = sym in_it.main_comp;
    closed = in_it.closed;
  })

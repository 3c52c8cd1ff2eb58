-- The tables that are read from flash are the same where flash is the same up to their end.
use Rattle.std.proofs.Common.{◌≡◌, ℕ, ◌+◌, ◌-◌, ◌*◌, ◌≤◌, List, length, drop, ap, ap₂, ◌∙◌, arith}
use Rattle.std.specs.Prelude.{sum_by}
use Rattle.machine_protection.specs.declared.region.Region.{Region}
use Rattle.machine_devices.specs.declared.image.Image.{Image}
use Rattle.monitor_model.specs.Records.{words_in}
use Rattle.monitor_model.specs.Layout.{compartment_size, area_end, initial_word_count}
use Rattle.monitor_model.specs.MonitorCode.{MonitorCode}
use Rattle.monitor_model.specs.FromFlash.{records, word_at, region_at, comp_record_at, site_record_at, target_record_at, init_record_at, comp_count, site_count, target_count, lend_count, init_count, sites_offset, targets_offset, lends_offset, inits_offset, inits_read, moved_word, moved_word_at, tables_behind}
use Rattle.machine_thumb.specs.Decoded.{decoded}
use Rattle.monitor_laws.proofs.ReadTables.{length-records, slot_count}
use Rattle.image_runs.proofs.Alike.{Alike, alike_before, alike_behind, read_same, records_same}
use Rattle.image_runs.specs.OtherCode.{with_flash}

-- how many bytes behind the page the tables have, as they are read
abbrev pub area_behind : (slots : ℕ) → (bytes : List ℕ) → ℕ
area_behind s b = inits_offset b s + 12 * init_count b + 4 * sum_by words_in (inits_read b s)

-- ---- records of bytes that are alike

module _ (b c : List ℕ) (n : ℕ) (same : Alike n b c) where
  word_same : (o : ℕ) → o + 4 ≤ n → word_at b o ≡ word_at c o
  word_same o le = read_same 4 o n b c le same

  region_same : (o : ℕ) → o + 8 ≤ n → region_at b o ≡ region_at c o
  region_same o le =
      let x = word_same o (omega (arith, le)) in
      let y = word_same (o + 4) (omega (arith, le)) in
      let make : ℕ → ℕ → Region = λ r s. record { rbar = r; rasr = s } in
      ap₂ make x y

  comp_same : (s o : ℕ) → o + (8 * s + 16) ≤ n → comp_record_at b s o ≡ comp_record_at c s o
  comp_same s o le =
      let x = region_same o (omega (arith, le)) in
      let y = records_same (region_at b) (region_at c) 8 s (o + 8) n region_same (omega (arith, le)) in
      let z = word_same (o + 8 + 8 * s) (omega (arith, le)) in
      let w = word_same (o + 12 + 8 * s) (omega (arith, le)) in
      cc

  site_same : (o : ℕ) → o + 12 ≤ n → site_record_at b o ≡ site_record_at c o
  site_same o le =
      let x = word_same o (omega (arith, le)) in
      let y = word_same (o + 4) (omega (arith, le)) in
      let z = word_same (o + 8) (omega (arith, le)) in
      cc

  target_same : (o : ℕ) → o + 8 ≤ n → target_record_at b o ≡ target_record_at c o
  target_same o le =
      let x = word_same o (omega (arith, le)) in
      let y = word_same (o + 4) (omega (arith, le)) in
      cc

  init_same : (o : ℕ) → o + 12 ≤ n → init_record_at b o ≡ init_record_at c o
  init_same o le =
      let x = word_same o (omega (arith, le)) in
      let y = word_same (o + 4) (omega (arith, le)) in
      let z = word_same (o + 8) (omega (arith, le)) in
      cc

  -- ---- all of them, where the tables end in front of n

  module _ (s : ℕ) (room : area_behind s b ≤ n) where
    comps_n : comp_count b ≡ comp_count c
    comps_n = word_same 0 (omega (arith, room))

    sites_n : site_count b ≡ site_count c
    sites_n = word_same 4 (omega (arith, room))

    targets_n : target_count b ≡ target_count c
    targets_n = word_same 8 (omega (arith, room))

    lends_n : lend_count b ≡ lend_count c
    lends_n = word_same 12 (omega (arith, room))

    inits_n : init_count b ≡ init_count c
    inits_n = word_same 16 (omega (arith, room))

    sites_o : sites_offset b s ≡ sites_offset c s
    sites_o = ap (λ k. 32 + (8 * s + 16) * k) comps_n

    targets_o : targets_offset b s ≡ targets_offset c s
    targets_o = ap₂ (λ o k. o + 12 * k) sites_o sites_n

    lends_o : lends_offset b s ≡ lends_offset c s
    lends_o = ap₂ (λ o k. o + 8 * k) targets_o targets_n

    inits_o : inits_offset b s ≡ inits_offset c s
    inits_o = ap₂ (λ o k. o + 4 * k) lends_o lends_n

    pub comps_same : records (comp_record_at b s) (8 * s + 16) (comp_count b) 32 ≡ records (comp_record_at c s) (8 * s + 16) (comp_count c) 32
    comps_same =
        records_same (comp_record_at b s) (comp_record_at c s) (8 * s + 16) (comp_count b) 32 n (comp_same s) (omega (arith, room))
        ∙ ap (λ k. records (comp_record_at c s) (8 * s + 16) k 32) comps_n

    pub sites_same : records (site_record_at b) 12 (site_count b) (sites_offset b s) ≡ records (site_record_at c) 12 (site_count c) (sites_offset c s)
    sites_same =
        records_same (site_record_at b) (site_record_at c) 12 (site_count b) (sites_offset b s) n site_same (omega (arith, room))
        ∙ ap₂ (λ k o. records (site_record_at c) 12 k o) sites_n sites_o

    pub targets_same : records (target_record_at b) 8 (target_count b) (targets_offset b s) ≡ records (target_record_at c) 8 (target_count c) (targets_offset c s)
    targets_same =
        records_same (target_record_at b) (target_record_at c) 8 (target_count b) (targets_offset b s) n target_same (omega (arith, room))
        ∙ ap₂ (λ k o. records (target_record_at c) 8 k o) targets_n targets_o

    pub lends_same : records (word_at b) 4 (lend_count b) (lends_offset b s) ≡ records (word_at c) 4 (lend_count c) (lends_offset c s)
    lends_same =
        records_same (word_at b) (word_at c) 4 (lend_count b) (lends_offset b s) n word_same (omega (arith, room))
        ∙ ap₂ (λ k o. records (word_at c) 4 k o) lends_n lends_o

    pub inits_same : inits_read b s ≡ inits_read c s
    inits_same =
        records_same (init_record_at b) (init_record_at c) 12 (init_count b) (inits_offset b s) n init_same (omega (arith, room))
        ∙ ap₂ (λ k o. records (init_record_at c) 12 k o) inits_n inits_o

    pub words_same : records (word_at b) 4 (sum_by words_in (inits_read b s)) (inits_offset b s + 12 * init_count b) ≡ records (word_at c) 4 (sum_by words_in (inits_read c s)) (inits_offset c s + 12 * init_count c)
    words_same =
        records_same (word_at b) (word_at c) 4 (sum_by words_in (inits_read b s)) (inits_offset b s + 12 * init_count b) n word_same room
        ∙ ap₂ (λ k o. records (word_at c) 4 k o) (ap (sum_by words_in) inits_same) (ap₂ (λ o k. o + 12 * k) inits_o inits_n)

    pub stack_base_same : word_at b 20 ≡ word_at c 20
    stack_base_same = word_same 20 (omega (arith, room))

    pub stack_size_same : word_at b 24 ≡ word_at c 24
    stack_size_same = word_same 24 (omega (arith, room))

    pub monitor_same : word_at b 28 ≡ word_at c 28
    monitor_same = word_same 28 (omega (arith, room))

-- the words of MOVW and MOVT
moved_same : (o n : ℕ) (b c : List ℕ) → o + 8 ≤ n → Alike n b c → moved_word_at o b ≡ moved_word_at o c
moved_same o n b c le same =
    let x = read_same 2 o n b c (omega (arith, le)) same in
    let y = read_same 2 (o + 2) n b c (omega (arith, le)) same in
    let z = read_same 2 (o + 4) n b c (omega (arith, le)) same in
    let w = read_same 2 (o + 6) n b c (omega (arith, le)) same in
    ap₂ moved_word (ap₂ decoded x y) (ap₂ decoded z w)

-- the tables of both, where flash is alike up to their end
pub tables_alike : (code : MonitorCode) (i : Image) (flash : List ℕ) (n : ℕ) → Alike n i.flash flash → 4096 ≤ n → code.main_entry_at + 8 ≤ n → code.main_compartment_at + 8 ≤ n
    → 4096 + area_behind (i.regions - 4) (drop 4096 i.flash) ≤ n
    → tables_behind code i (drop 4096 i.flash) ≡ tables_behind code (with_flash i flash) (drop 4096 flash)
tables_alike code i flash n same page entry compartment room =
    let b = drop 4096 i.flash in
    let c = drop 4096 flash in
    let s = i.regions - 4 in
    let m = n - 4096 in
    let behind : Alike m b c = alike_behind 4096 m i.flash flash (alike_before (4096 + m) n i.flash flash (omega (arith, page)) same) in
    let fits : area_behind s b ≤ m = omega (arith, room) in
    let e1 = comps_same b c m behind s fits in
    let e2 = sites_same b c m behind s fits in
    let e3 = targets_same b c m behind s fits in
    let e4 = lends_same b c m behind s fits in
    let e5 = inits_same b c m behind s fits in
    let e6 = words_same b c m behind s fits in
    let e7 = stack_base_same b c m behind s fits in
    let e8 = stack_size_same b c m behind s fits in
    let e9 = monitor_same b c m behind s fits in
    let f = moved_same code.main_entry_at n i.flash flash entry same in
    let g = moved_same code.main_compartment_at n i.flash flash compartment same in
    cc

-- ---- how long the tables are

pub area_is : (code : MonitorCode) (i : Image) → 4096 + 32 ≤ length i.flash → 1 ≤ length (tables_behind code i (drop 4096 i.flash)).comps
    → area_end (tables_behind code i (drop 4096 i.flash)) ≡ i.flash_base + 4096 + area_behind (i.regions - 4) (drop 4096 i.flash)
unfolding initial_word_count
area_is code i room some =
    let b = drop 4096 i.flash in
    let s = i.regions - 4 in
    let t = tables_behind code i b in
    let k = length-records (comp_record_at b s) (8 * s + 16) (comp_count b) 32 in
    let q = slot_count code i room some in
    let e : compartment_size t * length t.comps ≡ (8 * s + 16) * comp_count b = ap₂ (λ x y. (8 * x + 16) * y) q k in
    let m1 = length-records (site_record_at b) 12 (site_count b) (sites_offset b s) in
    let m2 = length-records (target_record_at b) 8 (target_count b) (targets_offset b s) in
    let m3 = length-records (word_at b) 4 (lend_count b) (lends_offset b s) in
    let m4 = length-records (init_record_at b) 12 (init_count b) (inits_offset b s) in
    omega (arith, e, m1, m2, m3, m4)

-- The check of the tables, in two parts: the rules of the eight words, and that the tables' block lies in flash.
use Rattle.std.proofs.Common.{◌≡◌, ℕ, ◌+◌, ◌-◌, ◌*◌, ◌^◌, ◌<◌, ◌≤◌, Bool, true, false, ◌&&◌, List, length, drop, max, nat_eq, nat_le, Option, Some, None, refl, sym, ap, ap₂, ◌∙◌, arith}
use Rattle.std.specs.Prelude.{sum_by}
use Rattle.std.proofs.lemmas.Bool.{leb-true, le-leb, and_parts as both}
use Rattle.base_ranges.specs.Ranges.{is_inside}
use Rattle.machine_devices.specs.declared.image.Image.{Image}
use Rattle.plan_model.specs.Blocks.{block_size_for}
use Rattle.monitor_laws.proofs.Checked.{must_none, and_none as none_parts}
use Rattle.monitor_model.specs.declared.tables.Tables.{Tables}
use Rattle.monitor_model.specs.Records.{words_in}
use Rattle.monitor_model.specs.Layout.{page_size, greatest_code, compartment_size, area_end, tables_size, initial_word_count}
use Rattle.monitor_model.specs.Checks.{must, and_then, tables_fail}
use Rattle.monitor_model.specs.MonitorCode.{MonitorCode}
use Rattle.monitor_model.specs.FromFlash.{word_at, comp_record_at, site_record_at, target_record_at, init_record_at, comp_count, site_count, target_count, lend_count, init_count, sites_offset, targets_offset, lends_offset, inits_offset, inits_read}
use Rattle.monitor_model.proofs.ReadFrom.{read_from}
use Rattle.monitor_laws.proofs.ReadTables.{length-records, slot_count}
use Rattle.monitor_audit.specs.declared.head.Head.{Head}
use Rattle.monitor_audit.specs.Heads.{IsHead, KeepsLimits, head_fails, words_offset}
use Rattle.base_laws.proofs.Tests.{is_false}
use Rattle.plan_model.proofs.Powers.{block_holds}

-- ---- tests

pub both_true : (a b : Bool) → a ≡ true → b ≡ true → (a && b) ≡ true
both_true true b e f = f
both_true false b e f = absurd cc

-- the second of two where the first does not fail
and_none : (o p : Option ℕ) → o ≡ None → and_then o p ≡ p
and_none None p e = refl
and_none (Some a) p e = absurd cc

and_some : (o p : Option ℕ) (a : ℕ) → o ≡ Some a → and_then o p ≡ Some a
and_some None p a e = absurd cc
and_some (Some b) p a e = e

in_turn : (o p q : Option ℕ) → and_then (and_then o p) q ≡ and_then o (and_then p q)
in_turn None p q = refl
in_turn (Some a) p q = refl

-- ---- the limits

pub keeps_limits : (i : Image) (h : Head) → h.inits < 2 ^ 32 → head_fails i h ≡ None → KeepsLimits h
keeps_limits i h few e =
    let a = none_parts (must (nat_le 1 h.comps && nat_le h.comps 64) (i.flash_base + page_size)) _ e in
    let b = none_parts (must (nat_le h.sites 4096) (i.flash_base + page_size + 4)) _ a.1 in
    let c = none_parts (must (nat_le h.targets (64 * h.sites)) (i.flash_base + page_size + 8)) _ b.1 in
    let d = none_parts (must (nat_le h.lends 32) (i.flash_base + page_size + 12)) _ c.1 in
    let n = both (nat_le 1 h.comps) (nat_le h.comps 64) (must_none _ (i.flash_base + page_size) a.0) in
    let s = leb-true h.sites 4096 (must_none _ (i.flash_base + page_size + 4) b.0) in
    let t = leb-true h.targets (64 * h.sites) (must_none _ (i.flash_base + page_size + 8) c.0) in
    record {
      some = leb-true 1 h.comps n.0;
      comps = leb-true h.comps 64 n.1;
      sites = s;
      targets = omega (arith, s, t);
      lends = leb-true h.lends 32 (must_none _ (i.flash_base + page_size + 12) d.0);
      inits = few;
    }

-- there is some compartment
pub has_some : (i : Image) (h : Head) → head_fails i h ≡ None → 1 ≤ h.comps
has_some i h e =
    let a = none_parts (must (nat_le 1 h.comps && nat_le h.comps 64) (i.flash_base + page_size)) _ e in
    let n = both (nat_le 1 h.comps) (nat_le h.comps 64) (must_none _ (i.flash_base + page_size) a.0) in
    leb-true 1 h.comps n.0

-- ---- of the tables that are read

-- the last test: the tables' block lies in flash, and what stands in it ends there
abbrev pub block_lies : Image → Tables → Bool
block_lies i t = is_inside t.base (tables_size t) i.flash_base (length i.flash) && nat_le (area_end t) (t.base + tables_size t)

module _ (code : MonitorCode) (i : Image) (h : Head) (is : IsHead (drop page_size i.flash) h) where
  abbrev t : Tables
  t = read_from code i

  abbrev b : List ℕ
  b = drop page_size i.flash

  abbrev s : ℕ
  s = i.regions - 4

  comps_n : length t.comps ≡ h.comps
  comps_n = length-records (comp_record_at b s) (8 * s + 16) (comp_count b) 32 ∙ sym is.comps

  sites_n : length t.sites ≡ h.sites
  sites_n = length-records (site_record_at b) 12 (site_count b) (sites_offset b s) ∙ sym is.sites

  targets_n : length t.targets ≡ h.targets
  targets_n = length-records (target_record_at b) 8 (target_count b) (targets_offset b s) ∙ sym is.targets

  lends_n : length t.lends ≡ h.lends
  lends_n = length-records (word_at b) 4 (lend_count b) (lends_offset b s) ∙ sym is.lends

  inits_n : length t.inits ≡ h.inits
  inits_n = length-records (init_record_at b) 12 (init_count b) (inits_offset b s) ∙ sym is.inits

  -- the check is the rules of the words, and then the last test
  pub in_parts : tables_fail i t ≡ and_then (head_fails i h) (must (block_lies i t) (i.flash_base + page_size))
  in_parts =
      let last : Option ℕ = must (block_lies i t) (i.flash_base + page_size) in
      let at : ℕ = i.flash_base + page_size in
      let m1 : ℕ → Option ℕ = λ n. must (nat_le 1 n && nat_le n 64) at in
      let m2 : ℕ → Option ℕ = λ n. must (nat_le n 4096) (at + 4) in
      let m3 : ℕ → ℕ → Option ℕ = λ n k. must (nat_le n (64 * k)) (at + 8) in
      let m4 : ℕ → Option ℕ = λ n. must (nat_le n 32) (at + 12) in
      let m5 : ℕ → Option ℕ = λ n. must (nat_eq n i.stack_base) (at + 20) in
      let m6 : ℕ → Option ℕ = λ n. must (nat_eq n i.stack_size) (at + 24) in
      let m7 : ℕ → Option ℕ = λ n. must (nat_eq n i.monitor) (at + 28) in
      let e1 = ap m1 comps_n in
      let e2 = ap m2 sites_n in
      let e3 = ap₂ m3 targets_n sites_n in
      let e4 = ap m4 lends_n in
      let e5 = ap m5 (sym is.stack_base) in
      let e6 = ap m6 (sym is.stack_size) in
      let e7 = ap m7 (sym is.monitor) in
      ap₂ and_then e1 (ap₂ and_then e2 (ap₂ and_then e3 (ap₂ and_then e4 (ap₂ and_then e5 (ap₂ and_then e6 (ap₂ and_then e7 refl))))))
      ∙ sym
      (in_turn (m1 h.comps) _ last
      ∙ ap (and_then (m1 h.comps))
      (in_turn (m2 h.sites) _ last
      ∙ ap (and_then (m2 h.sites))
      (in_turn (m3 h.targets h.sites) _ last
      ∙ ap (and_then (m3 h.targets h.sites))
      (in_turn (m4 h.lends) _ last
      ∙ ap (and_then (m4 h.lends))
      (in_turn (m5 h.stack.base) _ last
      ∙ ap (and_then (m5 h.stack.base)) (in_turn (m6 h.stack.size) (m7 h.monitor) last))))))

  pub head_first : (a : ℕ) → head_fails i h ≡ Some a → tables_fail i t ≡ Some a
  head_first a e = in_parts ∙ and_some (head_fails i h) _ a e

  -- where the words keep their rules, the last test decides
  pub block_refused : head_fails i h ≡ None → (block_lies i t ≡ true → ⊥) → tables_fail i t ≡ Some (i.flash_base + page_size)
  block_refused e f =
      in_parts ∙ and_none (head_fails i h) _ e ∙ ap (λ b. must b (i.flash_base + page_size)) (is_false (block_lies i t) f)

  pub block_passes : head_fails i h ≡ None → block_lies i t ≡ true → tables_fail i t ≡ None
  block_passes e f = in_parts ∙ and_none (head_fails i h) _ e ∙ ap (λ b. must b (i.flash_base + page_size)) f

  -- ---- how many bytes the tables have

  pub area_is : page_size + 32 ≤ length i.flash → 1 ≤ h.comps → area_end t ≡ i.flash_base + (page_size + words_offset s h + 4 * sum_by words_in (inits_read b s))
  unfolding initial_word_count
  area_is room some =
      let k = comps_n in
      let q = slot_count code i room (omega (arith, some, k)) in
      let e : compartment_size t * length t.comps ≡ (8 * s + 16) * h.comps = ap₂ (λ x y. (8 * x + 16) * y) q k in
      let m1 = sites_n in
      let m2 = targets_n in
      let m3 = lends_n in
      let m4 = inits_n in
      omega (arith, e, m1, m2, m3, m4)

  pub lies_means : block_lies i t ≡ true → (area_end t ≤ i.flash_base + length i.flash) × (tables_size t ≤ length i.flash)
  lies_means e =
      let p = both (is_inside t.base (tables_size t) i.flash_base (length i.flash)) (nat_le (area_end t) (t.base + tables_size t)) e in
      let q = both (nat_le i.flash_base t.base) (nat_le (t.base + tables_size t) (i.flash_base + length i.flash)) p.0 in
      let x = leb-true (t.base + tables_size t) (i.flash_base + length i.flash) q.1 in
      let y = leb-true (area_end t) (t.base + tables_size t) p.1 in
      (omega (arith, x, y), omega (arith, x))

  pub lies_where : tables_size t ≤ length i.flash → area_end t ≤ i.flash_base + tables_size t → block_lies i t ≡ true
  lies_where x y =
      both_true (is_inside t.base (tables_size t) i.flash_base (length i.flash)) (nat_le (area_end t) (t.base + tables_size t))
      (both_true (nat_le i.flash_base t.base) (nat_le (t.base + tables_size t) (i.flash_base + length i.flash)) (le-leb i.flash_base t.base (omega arith)) (le-leb (t.base + tables_size t) (i.flash_base + length i.flash) (omega (arith, x))))
      (le-leb (area_end t) (t.base + tables_size t) y)

-- ---- blocks

-- the size of the tables' block
pub size_is : (t : Tables) (n : ℕ) → area_end t ≡ t.base + n → tables_size t ≡ max (block_size_for n) (greatest_code t.comps)
unfolding tables_size
size_is t n e = let d : area_end t - t.base ≡ n = omega (arith, e) in ap (λ m. max (block_size_for m) (greatest_code t.comps)) d

pub size_holds : (t : Tables) (n : ℕ) → area_end t ≡ t.base + n → n ≤ 2 ^ 20 → area_end t ≤ t.base + tables_size t
size_holds t n e small =
    let s = size_is t n e in
    let b = block_holds n (omega (arith, small)) in
    omega (arith, s, b, e)

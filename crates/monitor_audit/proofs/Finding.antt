-- What is found: a fault of a word, a fault of the block, or tables that pass.
use Rattle.std.proofs.Common.{◌≡◌, ℕ, ◌+◌, ◌-◌, ◌*◌, ◌^◌, ◌<◌, ◌≤◌, length, drop, max, Some, None, true, ap, ◌∙◌, arith}
use Rattle.std.specs.Prelude.{sum_by}
use Rattle.machine_devices.specs.declared.image.Image.{Image}
use Rattle.plan_model.specs.Blocks.{block_size_for}
use Rattle.monitor_model.specs.declared.tables.Tables.{Tables}
use Rattle.monitor_model.specs.Records.{words_in}
use Rattle.monitor_model.specs.Layout.{page_size, greatest_code, area_end, tables_size}
use Rattle.monitor_model.specs.Checks.{tables_fail}
use Rattle.monitor_model.specs.MonitorCode.{MonitorCode}
use Rattle.monitor_model.specs.FromFlash.{inits_read, tables_of}
use Rattle.monitor_model.proofs.ReadFrom.{read_from, tables_are}
use Rattle.monitor_audit.specs.declared.head.Head.{Head}
use Rattle.monitor_audit.specs.Heads.{IsHead, head_fails, words_offset}
use Rattle.monitor_audit.proofs.Checking.{block_lies, head_first, block_refused, block_passes, area_is, lies_means, lies_where, size_is, size_holds}

-- how many words start-up copies
abbrev pub copied : Image → ℕ
copied i = sum_by words_in (inits_read (drop page_size i.flash) (i.regions - 4))

module _ (code : MonitorCode) (i : Image) (h : Head) (is : IsHead (drop page_size i.flash) h) where
  pub word_fault : (a : ℕ) → head_fails i h ≡ Some a → tables_fail i (tables_of code i) ≡ Some a
  word_fault a e = ap (tables_fail i) (tables_are code i) ∙ head_first code i h is a e

  module _ (room : page_size + 32 ≤ length i.flash) (some : 1 ≤ h.comps) (keeps : head_fails i h ≡ None) where
    abbrev n : ℕ
    n = page_size + words_offset (i.regions - 4) h + 4 * copied i

    ends : area_end (read_from code i) ≡ i.flash_base + n
    ends = area_is code i h is room some

    size : tables_size (read_from code i) ≡ max (block_size_for n) (greatest_code (read_from code i).comps)
    size = size_is (read_from code i) n ends

    refused : (block_lies i (read_from code i) ≡ true → ⊥) → tables_fail i (tables_of code i) ≡ Some (i.flash_base + page_size)
    refused f = ap (tables_fail i) (tables_are code i) ∙ block_refused code i h is keeps f

    -- what stands in the block does not end in flash
    pub end_fault : length i.flash < n → tables_fail i (tables_of code i) ≡ Some (i.flash_base + page_size)
    end_fault lt = refused (λ e. let m = (lies_means code i h is e).0 in let d = ends in omega (arith, m, d, lt))

    -- the block does not
    pub size_fault : length i.flash < max (block_size_for n) (greatest_code (tables_of code i).comps) → tables_fail i (tables_of code i) ≡ Some (i.flash_base + page_size)
    size_fault lt =
        refused
        (λ e.
        let m = (lies_means code i h is e).1 in
        let d = size in
        let g = ap (λ (t : Tables). greatest_code t.comps) (tables_are code i) in
        omega (arith, m, d, g, lt))

    pub passes : n ≤ length i.flash → length i.flash ≤ 2 ^ 20 → max (block_size_for n) (greatest_code (tables_of code i).comps) ≤ length i.flash → tables_fail i (tables_of code i) ≡ None
    passes le few fits =
        let d = size in
        let g = ap (λ (t : Tables). greatest_code t.comps) (tables_are code i) in
        let a = ends in
        let s = size_holds (read_from code i) n a (omega (arith, le, few)) in
        ap (tables_fail i) (tables_are code i)
        ∙ block_passes code i h is keeps (lies_where code i h is (omega (arith, d, g, fits)) s)

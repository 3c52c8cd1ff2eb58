-- The tables that an image's flash has, read from the first 4,096 bytes and what stands behind them. Every image has some.
use Rattle.std.specs.Prelude.{ℕ, zero, suc, ◌+◌, ◌-◌, ◌*◌, ◌^◌, List, [], ◌∷◌, drop, Option, Some, nat_eq, sum_by, if◌then◌else◌}
use Rattle.base_words.specs.Bytes.{read}
use Rattle.machine_thumb.specs.declared.table.Instr.{Instr}
use Rattle.machine_thumb.specs.declared.table.Instr.TheVariants.{MoveWide, MoveTop}
use Rattle.machine_thumb.specs.Decoded.{decoded}
use Rattle.machine_protection.specs.declared.region.Region.{Region}
use Rattle.machine_devices.specs.declared.image.Image.{Image}
use Rattle.monitor_model.specs.declared.tables.CompRecord.{CompRecord}
use Rattle.monitor_model.specs.declared.tables.SiteRecord.{SiteRecord}
use Rattle.monitor_model.specs.declared.tables.TargetRecord.{TargetRecord}
use Rattle.monitor_model.specs.declared.tables.InitRecord.{InitRecord}
use Rattle.monitor_model.specs.declared.tables.Tables.{Tables}
use Rattle.monitor_model.specs.Records.{words_in}
use Rattle.monitor_model.specs.Layout.{page_size, head_size}
use Rattle.monitor_model.specs.MonitorCode.{MonitorCode}

-- ---- records behind the page

-- so many records, one every so many bytes
abbrev pub records : {A : Type 0} → (record_at : ℕ → A) → (size count offset : ℕ) → List A
records f z zero o = []
records f z (suc n) o = f o ∷ records f z n (o + z)

-- `bytes` are those of flash behind the page, and offsets are counted there
module _ (bytes : List ℕ) where
  abbrev pub word_at : (offset : ℕ) → ℕ
  word_at o = read 4 o bytes

  abbrev pub region_at : (offset : ℕ) → Region
  region_at o = record { rbar = word_at o; rasr = word_at (o + 4) }

  abbrev pub comp_record_at : (slots offset : ℕ) → CompRecord
  comp_record_at s o =
      record { code = region_at o; slots = records region_at 8 s (o + 8); mask = word_at (o + 8 + 8 * s); reads = word_at (o + 12 + 8 * s) }

  abbrev pub site_record_at : (offset : ℕ) → SiteRecord
  site_record_at o = record { ret = word_at o; first = word_at (o + 4); count = word_at (o + 8) }

  abbrev pub target_record_at : (offset : ℕ) → TargetRecord
  target_record_at o = record { entry = word_at o; compartment = word_at (o + 4) }

  abbrev pub init_record_at : (offset : ℕ) → InitRecord
  init_record_at o = record { at = word_at o; end = word_at (o + 4); from = word_at (o + 8) }

  -- ---- the eight words in front

  abbrev pub comp_count : ℕ
  comp_count = word_at 0

  abbrev pub site_count : ℕ
  site_count = word_at 4

  abbrev pub target_count : ℕ
  target_count = word_at 8

  abbrev pub lend_count : ℕ
  lend_count = word_at 12

  abbrev pub init_count : ℕ
  init_count = word_at 16

  -- ---- all records of a board with so many slots

  abbrev pub sites_offset : (slots : ℕ) → ℕ
  sites_offset s = head_size + (8 * s + 16) * comp_count

  abbrev pub targets_offset : (slots : ℕ) → ℕ
  targets_offset s = sites_offset s + 12 * site_count

  abbrev pub lends_offset : (slots : ℕ) → ℕ
  lends_offset s = targets_offset s + 8 * target_count

  abbrev pub inits_offset : (slots : ℕ) → ℕ
  inits_offset s = lends_offset s + 4 * lend_count

  abbrev pub inits_read : (slots : ℕ) → List InitRecord
  inits_read s = records init_record_at 12 init_count (inits_offset s)

-- ---- the two numbers in the page

-- what MOVW and MOVT of one register make of it, and 0 where they do not stand there
abbrev pub moved_word : Option Instr → Option Instr → ℕ
moved_word (Some (MoveWide d v)) (Some (MoveTop e w)) = if nat_eq d e then v + 2 ^ 16 * w else 0
moved_word _ _ = 0

abbrev pub half_at : (offset : ℕ) → (flash : List ℕ) → ℕ
half_at o flash = read 2 o flash

abbrev pub moved_word_at : (offset : ℕ) → (flash : List ℕ) → ℕ
moved_word_at o flash =
    moved_word (decoded (half_at o flash) (half_at (o + 2) flash)) (decoded (half_at (o + 4) flash) (half_at (o + 6) flash))

-- ---- the tables

-- of an image, by the bytes behind its page: the tables' block stands first in flash, and slots from region 4 on
abbrev pub tables_behind : MonitorCode → Image → (bytes : List ℕ) → Tables
tables_behind code i bytes =
    let slots : ℕ = i.regions - 4 in
    let inits : List InitRecord = inits_read bytes slots in
    record {
      base = i.flash_base;
      comps = records (comp_record_at bytes slots) (8 * slots + 16) (comp_count bytes) head_size;
      sites = records (site_record_at bytes) 12 (site_count bytes) (sites_offset bytes slots);
      targets = records (target_record_at bytes) 8 (target_count bytes) (targets_offset bytes slots);
      lends = records (word_at bytes) 4 (lend_count bytes) (lends_offset bytes slots);
      inits = inits;
      words = records (word_at bytes) 4 (sum_by words_in inits) (inits_offset bytes slots + 12 * init_count bytes);
      stack = record { base = word_at bytes 20; size = word_at bytes 24 };
      monitor = word_at bytes 28;
      main = moved_word_at code.main_entry_at i.flash;
      main_comp = moved_word_at code.main_compartment_at i.flash;
      closed = i.closed;
    }

unfoldable pub tables_of : MonitorCode → Image → Tables
tables_of code i = tables_behind code i (drop page_size i.flash)

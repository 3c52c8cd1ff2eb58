-- What the monitor's code takes of the tables: counts, addresses, and the words of the regions that stay. All are words, so
-- sums wrap at 32 bits; tables of an image never come there.
use Rattle.std.specs.Prelude.{ℕ, ◌+◌, ◌*◌, ◌/◌, ◌^◌, Bool, true, false, length, min}
use Rattle.std.specs.Int.{trailing_zeros, w32}
use Rattle.base_words.specs.Arithmetic.{word}
use Rattle.machine_protection.specs.declared.region.Region.{Region}
use Rattle.machine_protection.specs.declared.words.Rights.TheVariants.{Background, Code, Stack}
use Rattle.machine_protection.specs.RegionWords.{region_of}
use Rattle.machine_devices.specs.Rules.{block_size}
use Rattle.monitor_model.specs.declared.tables.Tables.{Tables}
use Rattle.monitor_model.specs.Records.{number_of_slots, eighth as eighth_size, stack_end as end_of_stack}
use Rattle.monitor_model.specs.Layout.{compartments_at as compartments_from, sites_at as sites_from, targets_at as targets_from, lends_at as lends_from, inits_at as inits_from, tables_size}
use Rattle.monitor_model.specs.Offsets.{loans_offset}

pub record Constants : Type 0 where
  -- how many slots each compartment has
  pub slots : ℕ
  -- the monitor's block, its loans and its end
  pub block : ℕ
  pub loans_at : ℕ
  pub block_end : ℕ
  -- the stack, its end, and the exponent of an eighth of it
  pub stack : ℕ
  pub stack_end : ℕ
  pub eighth : ℕ
  -- where the records stand in flash, and how many of them; how many initial words
  pub compartments_at : ℕ
  pub sites_at : ℕ
  pub sites : ℕ
  pub targets_at : ℕ
  pub lends_at : ℕ
  pub lends : ℕ
  pub inits_at : ℕ
  pub inits : ℕ
  pub words : ℕ
  -- regions 0 and 1, and region 3 with all eighths open
  pub background : Region
  pub tables : Region
  pub stack_region : Region
  -- where execution begins: the entry of `main`, with bit 0 set, and its compartment
  pub main : ℕ
  pub main_compartment : ℕ
  -- the address of the leave stub, with bit 0 set
  pub stub_entry : ℕ
  -- whether loads are refused too
  pub closed : Bool

-- the code has room for 12 slots, those of 16 regions
abbrev pub most_slots : ℕ
most_slots = 12

-- region 0: on an open board the lowest GiB, with flash and RAM; on a closed one the MiB of flash alone, whose base the tables'
-- block is at
abbrev pub background_of : (closed : Bool) → (base : ℕ) → Region
background_of false base = region_of 0 0 (2 ^ 30) 0 Background
background_of true base = region_of 0 (base / 2 ^ 20 * 2 ^ 20) (2 ^ 20) 0 Background

-- both words of a region, cut to words
abbrev pub region_words : Region → Region
region_words g = record { rbar = word g.rbar; rasr = word g.rasr }

-- for a leave stub at this address
abbrev pub constants_with : (stub : ℕ) → Tables → Constants
constants_with stub t = record {
  slots = min most_slots (number_of_slots t);
  block = word t.monitor;
  loans_at = word (t.monitor + loans_offset);
  block_end = word (t.monitor + block_size);
  stack = word t.stack.base;
  stack_end = word (end_of_stack t);
  eighth = trailing_zeros w32 (eighth_size t);
  compartments_at = word (compartments_from t);
  sites_at = word (sites_from t);
  sites = word (length t.sites);
  targets_at = word (targets_from t);
  lends_at = word (lends_from t);
  lends = word (length t.lends);
  inits_at = word (inits_from t);
  inits = word (length t.inits);
  words = word (length t.words);
  background = region_words (background_of t.closed t.base);
  tables = region_words (region_of 1 t.base (tables_size t) 0 Code);
  stack_region = region_words (region_of 3 t.stack.base t.stack.size 0 Stack);
  main = word t.main;
  main_compartment = word t.main_comp;
  stub_entry = word (stub + 1);
  closed = t.closed;
}

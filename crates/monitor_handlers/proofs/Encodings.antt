-- The code of the handler of MemManage has an encoding, and names r0 to r7 alone.
use Rattle.std.proofs.Common.{◌≡◌, ℕ, ◌+◌, ◌^◌, ◌<◌, ◌≤◌, Bool, true, false, nat_lt, refl, ◌∙◌, arith}
use Rattle.std.proofs.lemmas.Bool.Decides.{nat_tests}
use Rattle.machine_thumb.specs.Bytes.{EachInTable}
use Rattle.base_words.specs.declared.memory.Width.TheVariants.{Word}
use Rattle.monitor_steps.specs.Steps.{PrivilegedSteps, End, Load, Store, Halt, names_low, ◌▸◌}
use Rattle.monitor_steps.specs.Code.{code_length, code}
use Rattle.monitor_model.specs.declared.tables.Tables.{Tables}
use Rattle.monitor_program.specs.Constants.{Constants, constants_with}
use Rattle.monitor_program.specs.Opening.{bits_of}
use Rattle.monitor_model.specs.Offsets.{record_mask, record_reads, frame_r0}
use Rattle.monitor_model.specs.Halts.{halt_store, halt_fault, halt_load}
use Rattle.monitor_program.specs.MemFault.{loan_turn, scan, stored, loaded, finished, widths, stores, loads, memfault, lent_load}
use Rattle.monitor_handlers.proofs.Encodable.{Words, words_fit, times_words}
use Rattle.monitor_laws.proofs.Encoded.{fits_fields, times_fields, in_table}
use Rattle.monitor_laws.proofs.Appended.{times_low}

-- ---- products

-- ---- the handler

abbrev store_end : PrivilegedSteps
store_end = Load Word 5 0 frame_r0 ▸ stored ▸ finished

abbrev load_end : PrivilegedSteps
load_end = loaded ▸ Store Word 5 0 frame_r0 ▸ finished

finished_words : Words finished
finished_words = (omega arith, (omega arith, (omega arith, (omega arith, tt))))

store_words : Words store_end
store_words = (omega arith, (tt, (omega arith, (tt, tt, tt)), finished_words))

load_words : Words load_end
load_words = (omega arith, (tt, (omega arith, (tt, tt, tt)), finished_words))

module _ (stub : ℕ) (t : Tables) where
  abbrev c : Constants
  c = constants_with stub t

  turn_words : Words loan_turn
  turn_words = (((((omega arith, ((omega arith, tt), tt, tt)), tt, tt), tt, tt), tt, (omega arith, tt)))

  scan_words : (field code : ℕ) (k : PrivilegedSteps) → Words k → Words (scan c field code k)
  scan_words field code k w = (omega arith, times_words (bits_of 4 (c.slots + 2)) _ (omega arith, (omega arith, (omega arith, (omega arith, (turn_words, (omega arith, (tt, tt, w))))))))

  widths_words : (a b d : ℕ) (other k : PrivilegedSteps) → a < 2 ^ 32 → b < 2 ^ 32 → d < 2 ^ 32 → Words other → Words k → Words (widths a b d other k)
  widths_words a b d other k x y z o w = (x, ((omega arith, tt), (y, ((omega arith, tt), (z, ((omega arith, tt), o, tt)), tt)), w))

  stores_words : Words (stores c)
  stores_words = scan_words (record_mask c.slots) halt_store store_end store_words

  loads_words : (closed : Bool) → Words (loads c closed)
  loads_words false = tt
  loads_words true = widths_words 0x6808 0x7808 0x8808 (Halt halt_fault End) (lent_load c) (omega arith) (omega arith) (omega arith) tt (scan_words (record_reads c.slots) halt_load load_end load_words)

  memfault_words : Words (memfault c)
  memfault_words = (omega arith, (omega arith, (omega arith, (omega arith, (tt, tt, (tt, tt, (omega arith, (tt, tt, (omega arith, (omega arith, (tt, tt, (omega arith, (omega arith, (tt, tt, widths_words 0x6008 0x7008 0x8008 (loads c t.closed) (stores c) (omega arith) (omega arith) (omega arith) (loads_words t.closed) stores_words))))))))))))))

  -- ---- names and fields

  scan_low : (field code : ℕ) (k : PrivilegedSteps) → names_low k ≡ true → names_low (scan c field code k) ≡ true
  scan_low field code k e = times_low (bits_of 4 (c.slots + 2)) _ ∙ e

  stores_low : names_low (stores c) ≡ true
  stores_low = scan_low (record_mask c.slots) halt_store store_end refl

  loads_low : (closed : Bool) → names_low (loads c closed) ≡ true
  loads_low false = refl
  loads_low true = let e = scan_low (record_reads c.slots) halt_load load_end refl in rw e refl

  pub memfault_low : names_low (memfault c) ≡ true
  memfault_low = let e = stores_low in let f = loads_low t.closed in rw (e, f) refl

  scan_fields : (field code : ℕ) (k : PrivilegedSteps) → nat_lt field 32 ≡ true → nat_lt code 256 ≡ true → fits_fields k ≡ true → fits_fields (scan c field code k) ≡ true
  scan_fields field code k x y e = times_fields (bits_of 4 (c.slots + 2)) _ ∙ rw (x, y, e) refl

  small_field : (n : ℕ) → n < 32 → nat_lt n 32 ≡ true
  small_field n h = search (nat_tests, arith)

  stores_fields : c.slots ≤ 12 → fits_fields (stores c) ≡ true
  stores_fields h = scan_fields (record_mask c.slots) halt_store store_end (small_field (record_mask c.slots) (omega (arith, h))) refl refl

  loads_fields : c.slots ≤ 12 → (closed : Bool) → fits_fields (loads c closed) ≡ true
  loads_fields h false = refl
  loads_fields h true = let e = scan_fields (record_reads c.slots) halt_load load_end (small_field (record_reads c.slots) (omega (arith, h))) refl refl in rw e refl

  memfault_fields : c.slots ≤ 12 → fits_fields (memfault c) ≡ true
  memfault_fields h = let e = stores_fields h in let f = loads_fields h t.closed in rw (e, f) refl

  pub memfault_in_table : c.slots ≤ 12 → code_length (memfault c) < 2 ^ 16 → EachInTable (code (memfault c))
  memfault_in_table h l = in_table (memfault c) (memfault_fields h) (words_fit (memfault c) l memfault_words)

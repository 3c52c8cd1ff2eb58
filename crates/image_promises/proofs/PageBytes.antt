-- All of the monitor's code has an encoding, and each byte of its page is a byte.
use Rattle.std.proofs.Common.{ℕ, ◌+◌, ◌-◌, ◌^◌, ◌<◌, ◌≤◌, ◌++◌, length, replicate, arith}
use Rattle.base_laws.specs.Lists.{EachBelow}
use Rattle.base_words.specs.Bytes.{AreBytes}
use Rattle.machine_thumb.specs.Bytes.{code_bytes, EachInTable}
use Rattle.machine_thumb.specs.Laws.{ShowsItsLength}
use Rattle.machine_thumb.proofs.Codes.{in_table-append}
use Rattle.monitor_steps.specs.Code.{code, code_length}
use Rattle.monitor_model.specs.declared.tables.Tables.{Tables}
use Rattle.monitor_program.specs.CodeSize.{CodeFits}
use Rattle.monitor_program.specs.Constants.{Constants, constants_with}
use Rattle.monitor_program.specs.MemFault.{memfault}
use Rattle.monitor_program.specs.Page.{vectors, bytes_of_words, used_bytes, leave_stub, monitor_code, stub_offset, stub_address, constants, page}
use Rattle.monitor_handlers.proofs.Encodable.{Words, words_fit, times_words, regions_words}
use Rattle.monitor_program.specs.Opening.{bits_of, tables_of}
use Rattle.monitor_program.specs.Reset.{init_turn, thread_ready, to_main, reset}
use Rattle.monitor_program.specs.Svc.{svc}
use Rattle.monitor_program.proofs.Fields.{few_slots, eighth_word, stub_in}
use Rattle.monitor_laws.proofs.Encoded.{tables_fields, in_table}
use Rattle.monitor_handlers.proofs.SvcEncoded.{svc_in_table}
use Rattle.monitor_handlers.proofs.Encodings.{memfault_in_table}
use Rattle.image_promises.proofs.ByteLists.{below-append, below_at, ones_below, words_below, code_below}

reset_short : (c : Constants) → stub_offset c + 2 ≤ 4096 → code_length (reset c) < 2 ^ 16
reset_short c h = omega (arith, h)

svc_short : (c : Constants) → stub_offset c + 2 ≤ 4096 → code_length (svc c) < 2 ^ 16
svc_short c h = omega (arith, h)

memfault_short : (c : Constants) → stub_offset c + 2 ≤ 4096 → code_length (memfault c) < 2 ^ 16
memfault_short c h = omega (arith, h)

-- ---- start-up

module _ (stub : ℕ) (t : Tables) where
  abbrev s : Constants
  s = constants_with stub t

  go_words : Words (thread_ready s to_main)
  go_words = (omega arith, (omega arith, (omega arith, (omega arith, (omega arith, (omega arith, tt))))))

  tables_words : Words (tables_of s (thread_ready s to_main))
  tables_words = (omega arith, times_words (bits_of 4 (s.slots + 2)) _ (omega arith, (omega arith, (omega arith, (omega arith, (eighth_word stub t, (omega arith, (omega arith, (omega arith, (omega arith, (omega arith, regions_words s.slots 2 (thread_ready s to_main) go_words)))))))))))

  turn_words : Words (init_turn s)
  turn_words = (omega arith, ((omega arith, tt), (omega arith, tt)))

  reset_words : Words (reset s)
  reset_words = (omega arith, (omega arith, (omega arith, (let f = few_slots stub t in omega (arith, f), (tt, tt, (omega arith, (omega arith, (turn_words, (omega arith, (omega arith, (omega arith, (omega arith, (omega arith, (omega arith, (omega arith, (omega arith, (omega arith, (omega arith, tables_words))))))))))))))))))

  reset_in : code_length (reset s) < 2 ^ 16 → EachInTable (code (reset s))
  reset_in l = in_table (reset s) (tables_fields s (thread_ready s to_main) (few_slots stub t)) (words_fit (reset s) l reset_words)

-- ---- all of it

module _ (fits : CodeFits) (t : Tables) where
  abbrev k : Constants
  k = constants t

  pub monitor_in : EachInTable (monitor_code k)
  monitor_in =
      let few = few_slots (stub_address t) t in
      in_table-append (code (reset k)) (code (svc k) ++ (code (memfault k) ++ leave_stub)) (reset_in (stub_address t) t (reset_short k (fits t)))
      (in_table-append (code (svc k)) (code (memfault k) ++ leave_stub) (svc_in_table (stub_address t) t few (svc_short k (fits t)))
      (in_table-append (code (memfault k)) leave_stub (memfault_in_table (stub_address t) t few (memfault_short k (fits t))) stub_in))

  vectors_below : EachBelow (2 ^ 32) (vectors t k)
  vectors_below = (omega arith, (omega arith, (omega arith, (omega arith, (omega arith, (omega arith, (omega arith, (omega arith, (omega arith, (omega arith, (omega arith, (omega arith, (omega arith, (omega arith, (omega arith, (omega arith, tt))))))))))))))))

  pub page_bytes : ShowsItsLength → AreBytes (page t)
  unfolding page
  page_bytes law j =
      below_at 256 (page t) j (omega arith)
      (below-append 256 (used_bytes t k) (replicate (4096 - length (used_bytes t k)) 0xFF)
      (below-append 256 (bytes_of_words (vectors t k)) (code_bytes (monitor_code k)) (words_below (vectors t k) vectors_below) (code_below law (monitor_code k) monitor_in))
      (ones_below (4096 - length (used_bytes t k))))

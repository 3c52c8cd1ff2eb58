-- The code of the handler of SVC has an encoding, and names r0 to r7 alone.
use Rattle.std.proofs.Common.{◌≡◌, ℕ, ◌+◌, ◌^◌, ◌<◌, ◌≤◌, true, refl, arith}
use Rattle.machine_thumb.specs.Bytes.{EachInTable}
use Rattle.monitor_steps.specs.Steps.{names_low}
use Rattle.monitor_steps.specs.Code.{code_length, code}
use Rattle.monitor_model.specs.declared.tables.Tables.{Tables}
use Rattle.monitor_program.specs.Constants.{Constants, constants_with}
use Rattle.monitor_program.specs.Opening.{bits_of, tables_of, closed_up}
use Rattle.monitor_program.specs.Svc.{target_turn, enter, leave, lend, unlend, svc}
use Rattle.monitor_program.proofs.Fields.{eighth_word}
use Rattle.monitor_laws.proofs.Appended.{tables_low}
use Rattle.monitor_handlers.proofs.Encodable.{Words, words_fit, times_words, regions_words}
use Rattle.monitor_laws.proofs.Encoded.{fits_fields, in_table, tables_fields}

-- ---- the handler

module _ (stub : ℕ) (t : Tables) where
  abbrev c : Constants
  c = constants_with stub t

  closed : Words closed_up
  closed = (omega arith, (omega arith, tt))

  tables : Words (tables_of c closed_up)
  tables = (omega arith, times_words (bits_of 4 (c.slots + 2)) _ (omega arith, (omega arith, (omega arith, (omega arith, (eighth_word stub t, (omega arith, (omega arith, (omega arith, (omega arith, (omega arith, regions_words c.slots 2 closed_up closed)))))))))))

  a_turn : Words target_turn
  a_turn = ((tt, tt, (omega arith, tt)))

  enter_words : Words (enter c)
  enter_words = (omega arith, (tt, tt, (omega arith, (omega arith, (tt, tt, (omega arith, (omega arith, (omega arith, (a_turn, (omega arith, (tt, tt, (eighth_word stub t, (omega arith, (tt, tt, (omega arith, (omega arith, (omega arith, (omega arith, (omega arith, (omega arith, (omega arith, (omega arith, tables))))))))))))))))))))))

  leave_words : Words (leave c)
  leave_words = (omega arith, (tt, tt, (omega arith, (omega arith, tables))))

  lend_words : Words (lend c)
  lend_words = (omega arith, (tt, tt, (omega arith, (tt, tt, (omega arith, (omega arith, (tt, tt, (omega arith, (omega arith, (tt, tt, (tt, tt, (tt, tt, (omega arith, (omega arith, closed))))))))))))))

  unlend_words : Words unlend
  unlend_words = (tt, tt, (omega arith, closed))

  pub svc_words : Words (svc c)
  svc_words = (omega arith, (omega arith, (omega arith, (omega arith, (tt, tt, (tt, tt, (omega arith, (tt, tt, (omega arith, (omega arith, (tt, tt, (omega arith, (omega arith, (unlend_words, tt, (omega arith, (lend_words, tt, (omega arith, (enter_words, tt, (omega arith, (leave_words, tt, tt))))))))))))))))))))

  pub svc_low : names_low (svc c) ≡ true
  svc_low = let e = tables_low c closed_up in rw e refl

  svc_fields : c.slots ≤ 12 → fits_fields (svc c) ≡ true
  svc_fields h = let e = tables_fields c closed_up h in rw e refl

  pub svc_in_table : c.slots ≤ 12 → code_length (svc c) < 2 ^ 16 → EachInTable (code (svc c))
  svc_in_table h l = in_table (svc c) (svc_fields h) (words_fit (svc c) l svc_words)

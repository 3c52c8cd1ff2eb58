-- The code of the handler of SVC stands in flash, and its vector leads there.
use Rattle.std.proofs.Common.{◌≡◌, ℕ, ◌+◌, ◌-◌, ◌%◌, ◌^◌, ◌<◌, ◌≤◌, List, ◌∷◌, ◌++◌, length, get_or, replicate, sym, ap, ◌∙◌, arith, length-append, append_assoc}
use Rattle.base_words.specs.Bytes.{read}
use Rattle.base_words.proofs.Bytes.{read-append_left}
use Rattle.machine_thumb.specs.Bytes.{code_bytes}
use Rattle.machine_thumb.proofs.Codes.{code_bytes-append}
use Rattle.machine_devices.specs.declared.image.Image.{Image}
use Rattle.machine_devices.specs.Rules.{ObeysRules}
use Rattle.machine_model.specs.Code.{CodeIn}
use Rattle.machine_model.specs.CodeBytes.{FlashHasBytes}
use Rattle.machine_model.specs.Exceptions.{supervisor_call, vector}
use Rattle.machine_model.proofs.CodeBytes.{bytes_are_code}
use Rattle.machine_model.proofs.CodeParts.{length-code_bytes}
use Rattle.monitor_steps.specs.Code.{code, code_length}
use Rattle.monitor_steps.proofs.CodeParts.{code_has_its_length, length_even}
use Rattle.monitor_model.specs.declared.tables.Tables.{Tables}
use Rattle.monitor_program.specs.Constants.{Constants}
use Rattle.monitor_program.specs.Svc.{svc}
use Rattle.monitor_program.specs.MemFault.{memfault}
use Rattle.monitor_program.specs.Reset.{reset}
use Rattle.monitor_program.specs.CodeSize.{CodeFits}
use Rattle.monitor_program.specs.Page.{reset_offset, svc_offset, memfault_offset, vectors, bytes_of_words, used_bytes, leave_stub, constants, page, vector_to, stub_address}
use Rattle.monitor_laws.proofs.PageCode.{middle}
use Rattle.monitor_handlers.proofs.SvcEncoded.{svc_in_table}

module _ (i : Image) (t : Tables) (rules : ObeysRules i) (rest : List ℕ) (has : i.flash ≡ page t ++ rest) (first : t.base ≡ i.flash_base) (fits : CodeFits) where
  abbrev pub k : Constants
  k = constants t

  abbrev front : List ℕ
  front = bytes_of_words (vectors t k)

  abbrev A : List ℕ
  A = code_bytes (code (reset k))

  abbrev B : List ℕ
  B = code_bytes (code (svc k))

  abbrev C : List ℕ
  C = code_bytes (code (memfault k) ++ leave_stub)

  abbrev F : List ℕ
  F = replicate (4096 - length (used_bytes t k)) 0xFF

  parted : i.flash ≡ front ++ (A ++ (B ++ (C ++ (F ++ rest))))
  unfolding page
  parted =
      has
      ∙ ap (λ c. ((front ++ c) ++ F) ++ rest) (code_bytes-append (code (reset k)) (code (svc k) ++ (code (memfault k) ++ leave_stub)))
      ∙ ap (λ c. ((front ++ (A ++ c)) ++ F) ++ rest) (code_bytes-append (code (svc k)) (code (memfault k) ++ leave_stub))
      ∙ append_assoc (front ++ (A ++ (B ++ C))) F rest
      ∙ append_assoc front (A ++ (B ++ C)) (F ++ rest)
      ∙ ap (λ l. front ++ l) (append_assoc A (B ++ C) (F ++ rest))
      ∙ ap (λ l. front ++ (A ++ l)) (append_assoc B C (F ++ rest))

  -- where it begins
  abbrev pub offset : ℕ
  offset = svc_offset k

  offset_is : length (front ++ A) ≡ offset
  offset_is = let a = length-append front A in let b = length-code_bytes (code (reset k)) in let c = code_has_its_length (reset k) in omega (arith, a, b, c)

  pub room : offset + code_length (svc k) ≤ 4096
  room = let f = fits t in omega (arith, f)

  holds_svc : FlashHasBytes i offset B
  holds_svc = record {
    fits = fit parted;
    holds = λ n h. ap (λ o. get_or i.flash (o + n) 0) (sym offset_is) ∙ ap (λ l. get_or l (length (front ++ A) + n) 0) (parted ∙ sym (append_assoc front A (B ++ (C ++ (F ++ rest))))) ∙ middle (front ++ A) B (C ++ (F ++ rest)) n h;
  }
    where
      fit : i.flash ≡ front ++ (A ++ (B ++ (C ++ (F ++ rest)))) → offset + length B ≤ length i.flash
      fit e =
          let a = length-append front (A ++ (B ++ (C ++ (F ++ rest)))) in
          let b = length-append A (B ++ (C ++ (F ++ rest))) in
          let c = length-append B (C ++ (F ++ rest)) in
          let d = offset_is in
          let x = length-append front A in
          let l = ap (λ l. length l) e in
          omega (arith, a, b, c, d, x, l)

  pub has_svc : k.slots ≤ 12 → CodeIn i (i.flash_base + offset) (code (svc k))
  has_svc h = bytes_are_code i offset (code (svc k)) rules (svc_in_table (stub_address t) t h (let r = room in omega (arith, r))) holds_svc

  -- ---- the vector

  word_at_44 : (w0 w1 w2 w3 w4 w5 w6 w7 w8 w9 w10 w11 : ℕ) (ws : List ℕ) → w11 < 2 ^ 32 → read 4 44 (bytes_of_words (w0 ∷ w1 ∷ w2 ∷ w3 ∷ w4 ∷ w5 ∷ w6 ∷ w7 ∷ w8 ∷ w9 ∷ w10 ∷ w11 ∷ ws)) ≡ w11
  unfolding read
  word_at_44 w0 w1 w2 w3 w4 w5 w6 w7 w8 w9 w10 w11 ws h = omega (arith, h)

  vector_word : read 4 44 i.flash ≡ vector_to t offset
  vector_word =
      ap (λ l. read 4 44 l) parted
      ∙ read-append_left 4 44 front (A ++ (B ++ (C ++ (F ++ rest)))) (omega arith)
      ∙ word_at_44 k.block_end (vector_to t reset_offset) 0 0 (vector_to t (memfault_offset k)) 0 0 0 0 0 0 (vector_to t offset) (replicate 4 0) (omega arith)

  pub vector_is : vector i supervisor_call ≡ i.flash_base + offset
  vector_is =
      let v = vector_word in
      let r = room in
      let h = rules.flash_highest in
      let a = rules.flash_aligned in
      let e = length_even (reset k) in
      omega (arith, v, r, h, a, e, first)

  pub offset_even : (i.flash_base + offset) % 2 ≡ 0
  offset_even = let a = rules.flash_aligned in let e = length_even (reset k) in omega (arith, a, e)

-- The page in flash: start-up's code, and the vectors of reset.
use Rattle.std.proofs.Common.{◌≡◌, ℕ, ◌+◌, ◌-◌, ◌^◌, ◌<◌, ◌≤◌, List, [], ◌∷◌, ◌++◌, length, get_or, replicate, sym, ap, ◌∙◌, subst, arith, length-append, append_assoc, get_or-append-add}
use Rattle.std.proofs.lemmas.List.{get_or_append_left}
use Rattle.base_words.specs.Bytes.{read}
use Rattle.base_words.proofs.Bytes.{read-append_left}
use Rattle.machine_thumb.specs.declared.table.Instr.{Instr}
use Rattle.machine_thumb.specs.Bytes.{code_bytes, EachInTable}
use Rattle.machine_thumb.proofs.Codes.{code_bytes-append}
use Rattle.machine_devices.specs.declared.image.Image.{Image}
use Rattle.machine_devices.specs.Rules.{ObeysRules}
use Rattle.machine_model.specs.Code.{CodeIn}
use Rattle.machine_model.specs.CodeBytes.{FlashHasBytes}
use Rattle.machine_model.specs.Running.{code_size}
use Rattle.machine_model.proofs.CodeBytes.{bytes_are_code}
use Rattle.machine_model.proofs.CodeParts.{code_size-append}
use Rattle.monitor_steps.specs.Code.{code, code_length}
use Rattle.monitor_steps.proofs.CodeParts.{code_has_its_length}
use Rattle.monitor_model.specs.declared.tables.Tables.{Tables}
use Rattle.monitor_program.specs.Constants.{Constants}
use Rattle.monitor_program.specs.Svc.{svc}
use Rattle.monitor_program.specs.MemFault.{memfault}
use Rattle.monitor_program.specs.Reset.{to_main, reset}
use Rattle.monitor_program.specs.Page.{reset_offset, svc_offset, memfault_offset, vectors, bytes_of_words, used_bytes, leave_stub, constants, page, vector_to}
use Rattle.monitor_laws.proofs.Appended.{code_followed}
use Rattle.monitor_laws.proofs.ResetList.{before_control, reset_parts}
use Rattle.monitor_laws.proofs.Encoded.{to_main_in}

-- a part in the middle
pub middle : (xs ys zs : List ℕ) (k : ℕ) → k < length ys → get_or (xs ++ (ys ++ zs)) (length xs + k) 0 ≡ get_or ys k 0
middle xs ys zs k h = get_or-append-add xs (ys ++ zs) k 0 ∙ get_or_append_left ys zs 0 k h

-- start-up's code in two parts
pub reset_code : (c : Constants) → code (reset c) ≡ code (before_control c) ++ code to_main
reset_code c = ap code (sym (reset_parts c)) ∙ code_followed (before_control c) to_main

module _ (i : Image) (t : Tables) (rules : ObeysRules i) (rest : List ℕ) (has : i.flash ≡ page t ++ rest) where
  abbrev k : Constants
  k = constants t

  abbrev front : List ℕ
  front = bytes_of_words (vectors t k)

  abbrev behind : List ℕ
  behind = code_bytes (code (svc k) ++ (code (memfault k) ++ leave_stub)) ++ (replicate (4096 - length (used_bytes t k)) 0xFF ++ rest)

  parted : i.flash ≡ front ++ (code_bytes (code (reset k)) ++ behind)
  unfolding page
  parted =
      let a : List ℕ = code_bytes (code (reset k)) in
      let b : List ℕ = code_bytes (code (svc k) ++ (code (memfault k) ++ leave_stub)) in
      let f : List ℕ = replicate (4096 - length (used_bytes t k)) 0xFF in
      has
      ∙ ap (λ c. ((front ++ c) ++ f) ++ rest) (code_bytes-append (code (reset k)) (code (svc k) ++ (code (memfault k) ++ leave_stub)))
      ∙ append_assoc (front ++ (a ++ b)) f rest
      ∙ append_assoc front (a ++ b) (f ++ rest)
      ∙ ap (λ l. front ++ l) (append_assoc a b (f ++ rest))

  holds_reset : FlashHasBytes i reset_offset (code_bytes (code (reset k)))
  holds_reset = record { fits = room parted; holds = λ n h. ap (λ l. get_or l (64 + n) 0) parted ∙ middle front (code_bytes (code (reset k))) behind n h }
    where
      room : i.flash ≡ front ++ (code_bytes (code (reset k)) ++ behind) → 64 + length (code_bytes (code (reset k))) ≤ length i.flash
      room e =
          let a = length-append front (code_bytes (code (reset k)) ++ behind) in
          let b = length-append (code_bytes (code (reset k))) behind in
          let l = ap (λ l. length l) e in
          omega (arith, a, b, l)

  -- start-up's code stands there
  pub has_reset : EachInTable (code (before_control k)) → CodeIn i (i.flash_base + 64) (code (before_control k) ++ code to_main)
  has_reset tables = subst (λ l. CodeIn i (i.flash_base + 64) l) (reset_code k) (bytes_are_code i 64 (code (reset k)) rules (subst EachInTable (sym (reset_code k)) (joined (code (before_control k)) tables)) holds_reset)
    where
      joined : (xs : List Instr) → EachInTable xs → EachInTable (xs ++ code to_main)
      joined [] h = to_main_in
      joined (x ∷ xs) h = (h.0, joined xs h.1)

  -- the vectors of the stack and of reset
  abbrev others : List ℕ
  others = 0 ∷ 0 ∷ vector_to t (memfault_offset k) ∷ (replicate 6 0 ++ (vector_to t (svc_offset k) ∷ replicate 4 0))

  word_at_0 : (a b : ℕ) (ws : List ℕ) → a < 2 ^ 32 → read 4 0 (bytes_of_words (a ∷ (b ∷ ws))) ≡ a
  unfolding read
  word_at_0 a b ws h = omega (arith, h)

  word_at_4 : (a b : ℕ) (ws : List ℕ) → b < 2 ^ 32 → read 4 4 (bytes_of_words (a ∷ (b ∷ ws))) ≡ b
  unfolding read
  word_at_4 a b ws h = omega (arith, h)

  pub first_vector : read 4 0 i.flash ≡ k.block_end
  first_vector = ap (λ l. read 4 0 l) parted ∙ read-append_left 4 0 front (code_bytes (code (reset k)) ++ behind) (omega arith) ∙ word_at_0 k.block_end (vector_to t reset_offset) others (omega arith)

  pub reset_vector : read 4 4 i.flash ≡ vector_to t reset_offset
  reset_vector = ap (λ l. read 4 4 l) parted ∙ read-append_left 4 4 front (code_bytes (code (reset k)) ++ behind) (omega arith) ∙ word_at_4 k.block_end (vector_to t reset_offset) others (omega arith)

-- both parts are as long as the list
pub parts_length : (c : Constants) → code_length (before_control c) + 12 ≡ code_length (reset c)
parts_length c =
    let a = code_has_its_length (before_control c) in
    let b = code_has_its_length (reset c) in
    let d = ap code_size (reset_code c) in
    let e = code_size-append (code (before_control c)) (code to_main) in
    omega (arith, a, b, d, e)

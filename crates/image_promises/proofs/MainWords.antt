-- The words of `main` that start-up begins with, read back from the page.
use Rattle.std.proofs.Common.{◌≡◌, ℕ, ◌+◌, ◌-◌, ◌*◌, ◌/◌, ◌%◌, ◌^◌, ◌<◌, ◌≤◌, List, [], ◌∷◌, ◌++◌, length, get_or, replicate, ap, ◌∙◌, subst, append_assoc, get_or-append-add, arith}
use Rattle.std.specs.Prelude.{slice_index}
use Rattle.machine_thumb.specs.declared.table.Instr.{Instr}
use Rattle.machine_thumb.specs.declared.table.Instr.TheVariants.{MoveWide, MoveTop}
use Rattle.machine_thumb.specs.Table.{encode}
use Rattle.machine_thumb.specs.Bytes.{code_bytes}
use Rattle.machine_thumb.specs.Laws.{IsRoundTrip}
use Rattle.machine_thumb.proofs.Codes.{code_bytes-append}
use Rattle.monitor_steps.specs.Steps.{PrivilegedSteps}
use Rattle.monitor_steps.specs.Code.{code}
use Rattle.monitor_model.specs.declared.tables.Tables.{Tables}
use Rattle.monitor_program.specs.Constants.{Constants}
use Rattle.monitor_model.specs.FromFlash.{moved_word_at}
use Rattle.monitor_model.specs.Layout.{page_size}
use Rattle.monitor_program.specs.MemFault.{memfault}
use Rattle.monitor_program.specs.Page.{vectors, bytes_of_words, used_bytes, leave_stub, constants, page}
use Rattle.monitor_program.specs.Reset.{unit_is_there, copied, first_block, traps, first_regions, thread_ready, to_main, reset}
use Rattle.monitor_program.specs.Opening.{tables_of}
use Rattle.monitor_program.specs.Svc.{svc}
use Rattle.monitor_laws.proofs.PageCode.{middle}
use Rattle.image_promises.proofs.MovedWords.{HoldsMoves, moved_back}

-- ---- start-up's code in the page

module _ (t : Tables) where
  abbrev k : Constants
  k = constants t

  abbrev front : List ℕ
  front = bytes_of_words (vectors t k)

  abbrev others : List Instr
  others = code (svc k) ++ (code (memfault k) ++ leave_stub)

  abbrev fill : List ℕ
  fill = replicate (4096 - length (used_bytes t k)) 0xFF

  parted : page t ≡ front ++ (code_bytes (code (reset k)) ++ (code_bytes others ++ fill))
  unfolding page
  parted =
      ap (λ c. (front ++ c) ++ fill) (code_bytes-append (code (reset k)) others)
      ∙ append_assoc front (code_bytes (code (reset k)) ++ code_bytes others) fill
      ∙ ap (λ l. front ++ l) (append_assoc (code_bytes (code (reset k))) (code_bytes others) fill)

  pub reset_byte : (j : ℕ) → j < length (code_bytes (code (reset k))) → slice_index (page t) (64 + j) ≡ get_or (code_bytes (code (reset k))) j 0
  reset_byte j l = ap (λ xs. get_or xs (64 + j) 0) parted ∙ middle front (code_bytes (code (reset k))) (code_bytes others ++ fill) j l

-- ---- two pairs of moves

module _ (c x : ℕ) (more : List Instr) where
  abbrev second : List Instr
  second = MoveWide 7 (x % 2 ^ 16) ∷ MoveTop 7 (x / 2 ^ 16) ∷ more

  abbrev first : List Instr
  first = MoveWide 5 (c % 2 ^ 16) ∷ MoveTop 5 (c / 2 ^ 16) ∷ second

  pairs_long : 16 ≤ length (code_bytes first)
  unfolding encode
  pairs_long = omega arith

  second_byte : (j : ℕ) → get_or (code_bytes first) (8 + j) 0 ≡ get_or (code_bytes second) j 0
  unfolding encode
  second_byte j = get_or-append-add (code_bytes (MoveWide 5 (c % 2 ^ 16) ∷ MoveTop 5 (c / 2 ^ 16) ∷ [])) (code_bytes second) j 0

  module _ (law : IsRoundTrip) (flash : List ℕ) (small : c < 2 ^ 32) (low : x < 2 ^ 32) (has : (j : ℕ) → j < 16 → slice_index flash (64 + j) ≡ get_or (code_bytes first) j 0) where
    pub first_moved : moved_word_at 64 flash ≡ c
    first_moved =
        let e : c % 2 ^ 16 + 2 ^ 16 * (c / 2 ^ 16) ≡ c = omega arith in
        moved_back law flash 64 5 (c % 2 ^ 16) (c / 2 ^ 16) second (omega arith) (omega arith) (omega (arith, small)) (λ j l. has j (omega (arith, l))) ∙ e

    pub second_moved : moved_word_at 72 flash ≡ x
    second_moved =
        let e : x % 2 ^ 16 + 2 ^ 16 * (x / 2 ^ 16) ≡ x = omega arith in
        moved_back law flash 72 7 (x % 2 ^ 16) (x / 2 ^ 16) more (omega arith) (omega arith) (omega (arith, low)) at_72 ∙ e
      where
        at_72 : HoldsMoves flash 72 7 (x % 2 ^ 16) (x / 2 ^ 16) more
        at_72 j l =
            let o : 64 + (8 + j) ≡ 72 + j = omega arith in
            subst (λ n. slice_index flash n ≡ get_or (code_bytes second) j 0) o (has (8 + j) (omega (arith, l)) ∙ second_byte j)

-- ---- of a flash that begins with the page

module _ (law : IsRoundTrip) (t : Tables) (flash : List ℕ) (has : (j : ℕ) → j < page_size → slice_index flash j ≡ slice_index (page t) j) (main : t.main < 2 ^ 32) (compartment : t.main_comp < 2 ^ 32) where
  abbrev c : Constants
  c = constants t

  abbrev behind : PrivilegedSteps
  behind = unit_is_there c (copied c (first_block c (traps (first_regions c (tables_of c (thread_ready c to_main))))))

  in_flash : (j : ℕ) → j < 16 → slice_index flash (64 + j) ≡ get_or (code_bytes (first c.main_compartment c.main (code behind))) j 0
  in_flash j l = has (64 + j) (omega (arith, l)) ∙ reset_byte t j (let e = pairs_long c.main_compartment c.main (code behind) in omega (arith, e, l))

  pub entry_back : moved_word_at 72 flash ≡ t.main
  entry_back = second_moved c.main_compartment c.main (code behind) law flash (omega arith) (omega arith) in_flash ∙ (let e : t.main % 2 ^ 32 ≡ t.main = omega (arith, main) in e)

  pub compartment_back : moved_word_at 64 flash ≡ t.main_comp
  compartment_back = first_moved c.main_compartment c.main (code behind) law flash (omega arith) (omega arith) in_flash ∙ (let e : t.main_comp % 2 ^ 32 ≡ t.main_comp = omega (arith, compartment) in e)

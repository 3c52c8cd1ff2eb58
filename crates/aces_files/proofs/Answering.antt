-- Answers to requests on one or two files, whatever they answer by the bytes: what is an answer from what follows of what is known, which answers
-- write nothing, and how good requests end.
use Rattle.std.proofs.Common.{◌≡◌, ◌≢◌, ℕ, List, None, refl, subst}
use Rattle.aces_words.specs.Requests.{Origin}
use Rattle.aces_files.specs.Outcomes.{Outcome}
use Rattle.aces_files.specs.Answers.{RunAnswer, BinAnswer, no_image, no_tape, ran, wrote, AnswerByFile, too_large, read, AnswerByFiles, first_large, second_large, both_read}

-- answers from what is known are answers from what follows of it
module _ (Has Had : Origin → List ℕ → Type 0) (Exceeds Exceeded : Origin → Type 0)
    (also : (s : Origin) (bytes : List ℕ) → Has s bytes → Had s bytes) (large : (s : Origin) → Exceeds s → Exceeded s) where
  pub by_file_also : (s : Origin) (A : (bytes : List ℕ) → Outcome → Type 0) (o : Outcome) → AnswerByFile s A Has Exceeds o → AnswerByFile s A Had Exceeded o
  by_file_also s A o (too_large e) = too_large (large _ e)
  by_file_also s A o (read bytes p h a) = read bytes p (also _ bytes h) a

  pub by_files_also : (s t : Origin) (A : (bytes text : List ℕ) → Outcome → Type 0) (o : Outcome) → AnswerByFiles s t A Has Exceeds o
      → AnswerByFiles s t A Had Exceeded o
  by_files_also s t A o (first_large e) = first_large (large _ e)
  by_files_also s t A o (second_large bytes h e) = second_large bytes (also _ bytes h) (large _ e)
  by_files_also s t A o (both_read bytes text p h k a) = both_read bytes text p (also _ bytes h) (also _ text k) a

-- they write nothing but with status 0, where none by the bytes does
module _ (Has : Origin → List ℕ → Type 0) (Exceeds : Origin → Type 0) where
  pub by_file_keeps : (s : Origin) (A : (bytes : List ℕ) → Outcome → Type 0) → ((bytes : List ℕ) (o : Outcome) → A bytes o → o.status ≢ 0 → o.written ≡ None)
      → (o : Outcome) → AnswerByFile s A Has Exceeds o → o.status ≢ 0 → o.written ≡ None
  by_file_keeps s A none o (too_large e) n = refl
  by_file_keeps s A none o (read bytes p h a) n = none bytes o a n

  pub by_files_keep : (s t : Origin) (A : (bytes text : List ℕ) → Outcome → Type 0)
      → ((bytes text : List ℕ) (o : Outcome) → A bytes text o → o.status ≢ 0 → o.written ≡ None)
      → (o : Outcome) → AnswerByFiles s t A Has Exceeds o → o.status ≢ 0 → o.written ≡ None
  by_files_keep s t A none o (first_large e) n = refl
  by_files_keep s t A none o (second_large bytes h e) n = refl
  by_files_keep s t A none o (both_read bytes text p h k a) n = none bytes text o a n

-- where what is known of a file is one and within its limit, they end as they end by the bytes that are known
module _ (Has : Origin → List ℕ → Type 0) (Exceeds : Origin → Type 0) (one : (s : Origin) (a b : List ℕ) → Has s a → Has s b → a ≡ b)
    (fits : (s : Origin) (a : List ℕ) → Has s a → Exceeds s → ⊥) (P : ℕ → Type 0) where
  pub by_file_ends : (s : Origin) (A : (bytes : List ℕ) → Outcome → Type 0) (bytes : List ℕ) (o : Outcome) → Has s bytes → (A bytes o → P o.status)
      → AnswerByFile s A Has Exceeds o → P o.status
  by_file_ends s A bytes o h ends (too_large e) = absurd (fits _ bytes h e)
  by_file_ends s A bytes o h ends (read bytes1 p h1 a) = ends (subst (λ z. A z o) (one _ bytes1 bytes h1 h) a)

  pub by_files_end : (s t : Origin) (A : (bytes text : List ℕ) → Outcome → Type 0) (bytes text : List ℕ) (o : Outcome) → Has s bytes → Has t text
      → (A bytes text o → P o.status) → AnswerByFiles s t A Has Exceeds o → P o.status
  by_files_end s t A bytes text o h k ends (first_large e) = absurd (fits _ bytes h e)
  by_files_end s t A bytes text o h k ends (second_large bytes1 h1 e) = absurd (fits _ text k e)
  by_files_end s t A bytes text o h k ends (both_read bytes1 text1 p h1 k1 a) =
      ends (subst (λ z. A z text o) (one _ bytes1 bytes h1 h) (subst (λ z. A bytes1 z o) (one _ text1 text k1 k) a))

-- no answer but one to `bin` with status 0 writes anything
pub run_writes_nothing : (image tape : List ℕ) (steps : ℕ) (bytes text : List ℕ) (o : Outcome) → RunAnswer image tape steps bytes text o → o.written ≡ None
run_writes_nothing image tape steps bytes text o (no_image f h) = refl
run_writes_nothing image tape steps bytes text o (no_tape i f h k) = refl
run_writes_nothing image tape steps bytes text o (ran i h k) = refl

pub bin_writes_nothing : (image file bytes : List ℕ) (o : Outcome) → BinAnswer image file bytes o → o.status ≢ 0 → o.written ≡ None
bin_writes_nothing image file bytes o (no_image f h) n = refl
bin_writes_nothing image file bytes o (wrote i h) n = absurd (n refl)

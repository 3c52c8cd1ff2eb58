-- A memory behind several writes: which bytes it has.
use Rattle.std.proofs.Common.{◌≡◌, ◌≢◌, ℕ, zero, suc, ◌+◌, ◌*◌, ◌%◌, ◌<◌, ◌≤◌, ◌⊎◌, inl, inr, List, length, refl, sym, ap, ◌∙◌, subst, arith}
use Rattle.std.specs.Prelude.{slice_index}
use Rattle.std.specs.List.{fold, range_with_len}
use Rattle.std.proofs.lemmas.Bool.{cases_lt}
use mathlib.Core.Logic.{⊎_elim}
use Rattle.base_words.specs.Bytes.{read, write_all, cut}
use Rattle.base_words.proofs.Bytes.{length-write_all, byte_apart_all, read_all, read_one, cut_one}

-- an offset outside so many bytes
abbrev pub IsOff : (at size offset : ℕ) → Type 0
IsOff a n j = (j < a) ⊎ (a + n ≤ j)

pub off_all : (a : ℕ) (bytes mem : List ℕ) (j : ℕ) → IsOff a (length bytes) j → slice_index (write_all 1 a bytes mem) j ≡ slice_index mem j
off_all a bytes mem j (inl l) = byte_apart_all 1 a bytes mem j (λ k lt e. absurd (omega (arith, l, lt, e)))
off_all a bytes mem j (inr l) = byte_apart_all 1 a bytes mem j (λ k lt e. absurd (omega (arith, l, lt, e)))

pub in_all : (a : ℕ) (bytes mem : List ℕ) (k : ℕ) → k < length bytes → a + length bytes ≤ length mem → slice_index (write_all 1 a bytes mem) (a + k) % 256 ≡ slice_index bytes k % 256
in_all a bytes mem k lt room =
    let e : a + 1 * k ≡ a + k = omega arith in
    let r = read_all 1 a bytes mem k lt (omega (arith, room)) in
    sym (read_one (a + k) (write_all 1 a bytes mem)) ∙ (subst (λ n. read 1 n (write_all 1 a bytes mem) ≡ cut 1 (slice_index bytes k)) e r ∙ cut_one (slice_index bytes k))

-- blocks with these places and bytes
module _ (at : ℕ → ℕ) (bytes : ℕ → List ℕ) where
  abbrev pub put : (memory : List ℕ) → (block : ℕ) → List ℕ
  put mem c = write_all 1 (at c) (bytes c) mem

  -- with so many blocks, from this number on
  abbrev pub puts : (from count : ℕ) → (memory : List ℕ) → List ℕ
  puts lo n mem = fold put mem (range_with_len lo n)

  pub length-puts : (lo n : ℕ) (mem : List ℕ) → length (puts lo n mem) ≡ length mem
  length-puts lo zero mem = refl
  length-puts lo (suc n) mem = length-puts (lo + 1) n (put mem lo) ∙ length-write_all 1 (at lo) (bytes lo) mem

  -- an offset outside all of them has what it had
  pub puts_off : (lo n : ℕ) (mem : List ℕ) (j : ℕ) → ((c : ℕ) → lo ≤ c → c < lo + n → IsOff (at c) (length (bytes c)) j) → slice_index (puts lo n mem) j ≡ slice_index mem j
  puts_off lo zero mem j off = refl
  puts_off lo (suc n) mem j off =
      puts_off (lo + 1) n (put mem lo) j (λ c u v. off c (omega (arith, u)) (omega (arith, v)))
      ∙ off_all (at lo) (bytes lo) mem j (off lo (omega arith) (omega arith))

  -- one that is in a block, and in no other, has that block's byte
  pub puts_in : (lo n : ℕ) (mem : List ℕ) (c k : ℕ) → lo ≤ c → c < lo + n → k < length (bytes c) → at c + length (bytes c) ≤ length mem
      → ((d : ℕ) → d ≢ c → d < lo + n → IsOff (at d) (length (bytes d)) (at c + k)) → slice_index (puts lo n mem) (at c + k) % 256 ≡ slice_index (bytes c) k % 256
  puts_in lo zero mem c k u v lt room off = absurd (omega (arith, u, v))
  puts_in lo (suc n) mem c k u v lt room off =
      let same = length-write_all 1 (at lo) (bytes lo) mem in
      ⊎_elim (λ l. puts_in (lo + 1) n (put mem lo) c k (omega (arith, l)) (omega (arith, v)) lt (omega (arith, room, same)) (λ d ne w. off d ne (omega (arith, w)))) now (cases_lt lo c)
    where
      now : c ≤ lo → slice_index (puts lo (suc n) mem) (at c + k) % 256 ≡ slice_index (bytes c) k % 256
      now l =
          let e : lo ≡ c = omega (arith, l, u) in
          ap (λ x. x % 256) (puts_off (lo + 1) n (put mem lo) (at c + k) (λ d a b. off d (λ s. absurd (omega (arith, a, s, e))) (omega (arith, b))))
          ∙ subst (λ z. slice_index (write_all 1 (at z) (bytes z) mem) (at c + k) % 256 ≡ slice_index (bytes c) k % 256) (sym e) (in_all (at c) (bytes c) mem k lt room)

-- When two memories read alike off the monitor's block: word by word in one range, and byte by byte elsewhere.
use Rattle.std.proofs.Common.{◌≡◌, ℕ, zero, suc, ◌+◌, ◌-◌, ◌*◌, ◌/◌, ◌^◌, ◌<◌, ◌≤◌, ◌⊎◌, inl, inr, ⊎_elim, List, length, refl, sym, ap, ◌∙◌, subst, arith}
use Rattle.std.proofs.lemmas.Bool.{cases_lt}
use Rattle.base_words.specs.Bytes.{read}
use Rattle.base_words.proofs.Bytes.{read_fits, read_add}
use Rattle.machine_devices.specs.declared.image.Image.{Image}
use Rattle.machine_bus.proofs.WordBytes.{word_bytes}
use Rattle.monitor_model.specs.declared.tables.Tables.{Tables}
use Rattle.monitor_model.specs.MonitorLaw.{IsMemory}

four_bytes : (a : ℕ) (m n : List ℕ) → read 4 a m ≡ read 4 a n → (read 1 a m ≡ read 1 a n) × (read 1 (a + 1) m ≡ read 1 (a + 1) n) × (read 1 (a + 2) m ≡ read 1 (a + 2) n) × (read 1 (a + 3) m ≡ read 1 (a + 3) n)
four_bytes a m n e =
    let x = word_bytes a m in
    let y = word_bytes a n in
    let m0 = read_fits 1 a m in
    let m1 = read_fits 1 (a + 1) m in
    let m2 = read_fits 1 (a + 2) m in
    let m3 = read_fits 1 (a + 3) m in
    let n0 = read_fits 1 a n in
    let n1 = read_fits 1 (a + 1) n in
    let n2 = read_fits 1 (a + 2) n in
    let n3 = read_fits 1 (a + 3) n in (
      omega (arith, e, x, y, m0, m1, m2, m3, n0, n1, n2, n3),
      omega (arith, e, x, y, m0, m1, m2, m3, n0, n1, n2, n3),
      omega (arith, e, x, y, m0, m1, m2, m3, n0, n1, n2, n3),
      omega (arith, e, x, y, m0, m1, m2, m3, n0, n1, n2, n3),
    )

-- a byte of a word
byte_of : (a : ℕ) (m n : List ℕ) (x : ℕ) → read 4 a m ≡ read 4 a n → a ≤ x → x < a + 4 → read 1 x m ≡ read 1 x n
byte_of a m n x e lo hi = by (x - a) (omega (arith, lo)) (omega (arith, lo, hi))
  where
    by : (j : ℕ) → x ≡ a + j → j < 4 → read 1 x m ≡ read 1 x n
    by zero h lt = let z : a ≡ x = omega (arith, h) in subst (λ x. read 1 x m ≡ read 1 x n) z (four_bytes a m n e).0
    by (suc zero) h lt = subst (λ x. read 1 x m ≡ read 1 x n) (sym h) (four_bytes a m n e).1
    by (suc (suc zero)) h lt = subst (λ x. read 1 x m ≡ read 1 x n) (sym h) (four_bytes a m n e).2
    by (suc (suc (suc zero))) h lt = subst (λ x. read 1 x m ≡ read 1 x n) (sym h) (four_bytes a m n e).3
    by (suc (suc (suc (suc j)))) h lt = absurd (omega (arith, lt))

-- by bytes
pub reads_alike : (w a : ℕ) (m n : List ℕ) → ((x : ℕ) → a ≤ x → x < a + w → read 1 x m ≡ read 1 x n) → read w a m ≡ read w a n
unfolding read
reads_alike zero a m n h = refl
reads_alike (suc w) a m n h =
    let x = read_add 1 w a m in
    let y = read_add 1 w a n in
    let z : 1 + w ≡ suc w = omega arith in
    let f = h a (omega arith) (omega arith) in
    let g = reads_alike w (a + 1) m n (λ x lo hi. h x (omega (arith, lo)) (omega (arith, hi))) in
    ap (λ w. read w a m) (sym z) ∙ x ∙ ap (λ b. b + 256 ^ 1 * read w (a + 1) m) f ∙ ap (λ b. read 1 a n + 256 ^ 1 * b) g ∙ sym y ∙ ap (λ w. read w a n) z

-- so many words from f on read alike, and all bytes off the block and off these
pub memory_by : (i : Image) (t : Tables) (f n : ℕ) (new after : List ℕ) → length new ≡ length after → ((k : ℕ) → k < n → read 4 (f + 4 * k) new ≡ read 4 (f + 4 * k) after) →
    ((x : ℕ) → (x + 1 ≤ t.monitor - i.ram_base) ⊎ (t.monitor - i.ram_base + 1024 ≤ x) → (x + 1 ≤ f) ⊎ (f + 4 * n ≤ x) → read 1 x new ≡ read 1 x after) → IsMemory i t 0 after new
memory_by i t f n new after long words others = record {
  reads = λ w a off. reads_alike w a new after (λ x lo hi. at x (⊎_elim (λ z. inl (omega (arith, z, hi))) (λ z. inr (omega (arith, z, lo))) off));
  as_long = long;
}
  where
    inside : (x : ℕ) → f ≤ x → x < f + 4 * n → read 1 x new ≡ read 1 x after
    inside x lo hi = byte_of (f + 4 * ((x - f) / 4)) new after x (words ((x - f) / 4) (omega (arith, lo, hi))) (omega (arith, lo)) (omega (arith, lo))

    at : (x : ℕ) → (x + 1 ≤ t.monitor - i.ram_base) ⊎ (t.monitor - i.ram_base + 1024 ≤ x) → read 1 x new ≡ read 1 x after
    at x off = ⊎_elim (λ lt. others x off (inl (omega (arith, lt)))) (λ le. ⊎_elim (λ lt. inside x le lt) (λ ge. others x off (inr ge)) (cases_lt x (f + 4 * n))) (cases_lt x f)

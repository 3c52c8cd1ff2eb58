-- The bytes of flash are those of the blocks that start-up fills, where the words of these blocks stand.
use Rattle.std.proofs.Common.{◌≡◌, ℕ, zero, suc, ◌+◌, ◌-◌, ◌*◌, ◌/◌, ◌%◌, ◌<◌, ◌≤◌, inl, inr, List, [], ◌∷◌, ◌++◌, length, flat_map, refl, sym, ap, ◌∙◌, subst, arith, length-append}
use Rattle.std.specs.Prelude.{slice_index}
use Rattle.std.proofs.lemmas.List.{get_or_append_left, get_or-append-add}
use Rattle.base_words.specs.Bytes.{read, cut}
use Rattle.base_words.proofs.Bytes.{read_fits, cut_small}
use Rattle.machine_model.specs.Confinement.{AnyOf}
use Rattle.machine_model.specs.Stack.{words_at}
use Rattle.ir_model.specs.Resolved.{Program}
use Rattle.plan_model.specs.TableSize.{words_in}
use Rattle.code_model.specs.declared.places.Places.{Places}
use Rattle.monitor_model.specs.declared.tables.InitRecord.{InitRecord}
use Rattle.image_model.specs.FirstWords.{first_bytes, first_words}
use Rattle.image_model.specs.LinkedTables.{Filled, init_records}
use Rattle.machine_model.proofs.StackWords.{length-words_at as words_long}

-- ---- reads of two memories that have the same bytes

pub alike_by_bytes : (w a b : ℕ) (m n : List ℕ) → ((i : ℕ) → i < w → slice_index m (a + i) % 256 ≡ slice_index n (b + i) % 256) → read w a m ≡ read w b n
unfolding read
alike_by_bytes zero a b m n h = refl
alike_by_bytes (suc w) a b m n h =
    let here : slice_index m a % 256 ≡ slice_index n b % 256 = at_start a b (h 0 (omega arith)) in
    let rest = alike_by_bytes w (a + 1) (b + 1) m n (λ i lt. later a b i (h (suc i) (omega (arith, lt)))) in
    ap (λ x. x + 256 * read w (a + 1) m) here ∙ ap (λ x. slice_index n b % 256 + 256 * x) rest
  where
    at_start : (a b : ℕ) → slice_index m (a + 0) % 256 ≡ slice_index n (b + 0) % 256 → slice_index m a % 256 ≡ slice_index n b % 256
    at_start a b e = let s : a + 0 ≡ a = omega arith in let t : b + 0 ≡ b = omega arith in subst (λ x. slice_index m x % 256 ≡ slice_index n b % 256) s (subst (λ x. slice_index m (a + 0) % 256 ≡ slice_index n x % 256) t e)

    later : (a b i : ℕ) → slice_index m (a + suc i) % 256 ≡ slice_index n (b + suc i) % 256 → slice_index m (a + 1 + i) % 256 ≡ slice_index n (b + 1 + i) % 256
    later a b i e = let s : a + suc i ≡ a + 1 + i = omega arith in let t : b + suc i ≡ b + 1 + i = omega arith in subst (λ x. slice_index m x % 256 ≡ slice_index n (b + 1 + i) % 256) s (subst (λ x. slice_index m (a + suc i) % 256 ≡ slice_index n x % 256) t e)

digits : (x y c d : ℕ) → x % 256 + 256 * c ≡ y % 256 + 256 * d → (x % 256 ≡ y % 256) × (c ≡ d)
digits x y c d e = (omega (arith, e), omega (arith, e))

-- the bytes of two reads that are equal
pub bytes_of : (w a b : ℕ) (m n : List ℕ) → read w a m ≡ read w b n → (i : ℕ) → i < w → slice_index m (a + i) % 256 ≡ slice_index n (b + i) % 256
unfolding read
bytes_of zero a b m n e i lt = absurd (omega (arith, lt))
bytes_of (suc w) a b m n e zero lt =
    let d = (digits (slice_index m a) (slice_index n b) (read w (a + 1) m) (read w (b + 1) n) e).0 in
    let s : a ≡ a + 0 = omega arith in
    let t : b ≡ b + 0 = omega arith in
    subst (λ x. slice_index m x % 256 ≡ slice_index n (b + 0) % 256) s (subst (λ x. slice_index m a % 256 ≡ slice_index n x % 256) t d)
bytes_of (suc w) a b m n e (suc i) lt =
    let d = (digits (slice_index m a) (slice_index n b) (read w (a + 1) m) (read w (b + 1) n) e).1 in
    let r = bytes_of w (a + 1) (b + 1) m n d i (omega (arith, lt)) in
    let s : a + 1 + i ≡ a + suc i = omega arith in
    let t : b + 1 + i ≡ b + suc i = omega arith in
    subst (λ x. slice_index m x % 256 ≡ slice_index n (b + suc i) % 256) s (subst (λ x. slice_index m (a + 1 + i) % 256 ≡ slice_index n x % 256) t r)

-- ---- the words of a memory

word_there : (k o : ℕ) (mem : List ℕ) (j : ℕ) → j < k → slice_index (words_at k o mem) j ≡ read 4 (o + 4 * j) mem
unfolding words_at
word_there zero o mem j lt = absurd (omega (arith, lt))
word_there (suc k) o mem zero lt = let e : o ≡ o + 4 * 0 = omega arith in ap (λ x. read 4 x mem) e
word_there (suc k) o mem (suc j) lt = let e : o + 4 + 4 * j ≡ o + 4 * suc j = omega arith in word_there k (o + 4) mem j (omega (arith, lt)) ∙ ap (λ x. read 4 x mem) e

module _ (p : Program) (q : Places) (base : ℕ) (flash : List ℕ) where
  -- words that stand in flash from an address on, each cut to 32 bits
  abbrev pub StandAt : (address : ℕ) → List ℕ → Type 0
  StandAt a words = (j : ℕ) → j < length words → read 4 (a - base + 4 * j) flash ≡ cut 4 (slice_index words j)

  stand_front : (a : ℕ) (xs ys : List ℕ) → StandAt a (xs ++ ys) → StandAt a xs
  stand_front a xs ys h j lt =
      let e = length-append xs ys in
      h j (omega (arith, e, lt)) ∙ ap (cut 4) (get_or_append_left xs ys 0 j lt)

  stand_behind : (a : ℕ) (xs ys : List ℕ) → base ≤ a → StandAt a (xs ++ ys) → StandAt (a + 4 * length xs) ys
  stand_behind a xs ys le h j lt =
      let e = length-append xs ys in
      let s : a + 4 * length xs - base + 4 * j ≡ a - base + 4 * (length xs + j) = omega (arith, le) in
      ap (λ x. read 4 x flash) s ∙ (h (length xs + j) (omega (arith, e, lt)) ∙ ap (cut 4) (get_or-append-add xs ys j 0))

  -- a record that brings the words of a block
  pub record IsBrought (b : Filled) (n : InitRecord) : Type 0 where
    pub at : n.at ≡ b.base
    pub end : n.end ≡ b.base + 4 * words_in p b.globals
    pub words : StandAt n.from (first_words p q b.globals)

  first_long : (xs : List ℕ) → length (first_words p q xs) ≡ words_in p xs
  unfolding first_words
  first_long xs = words_long (words_in p xs) 0 (first_bytes p q xs)

  -- the record of a block has what the block has
  pub brought : (Q : Filled → Type 0) (R : InitRecord → Type 0) → ((b : Filled) (n : InitRecord) → Q b → IsBrought b n → R n) → (a : ℕ) (bs : List Filled) → base ≤ a → AnyOf Q bs
      → StandAt a (flat_map (λ (b : Filled). first_words p q b.globals) bs) → AnyOf R (init_records p a bs)
  brought Q R f a [] le h s = h
  brought Q R f a (b ∷ bs) le (inl h) s =
      inl (f b (record { at = b.base; end = b.base + 4 * words_in p b.globals; from = a }) h (record { at = refl; end = refl; words = stand_front a (first_words p q b.globals) _ s }))
  brought Q R f a (b ∷ bs) le (inr h) s =
      inr (brought Q R f (a + 4 * words_in p b.globals) bs (omega (arith, le)) h
      (subst (λ k. StandAt (a + 4 * k) (flat_map (λ (c : Filled). first_words p q c.globals) bs)) (first_long b.globals) (stand_behind a (first_words p q b.globals) _ le s)))

  -- and reads of flash there are reads of the block
  pub reads_back : (from : ℕ) (xs : List ℕ) → StandAt from (first_words p q xs) → (w a : ℕ) → a + w ≤ 4 * words_in p xs → read w (from - base + a) flash ≡ read w a (first_bytes p q xs)
  unfolding first_words
  reads_back from xs h w a le = alike_by_bytes w (from - base + a) a flash mem (λ i lt. moved i (byte_at (a + i) (omega (arith, le, lt))))
    where
      mem : List ℕ
      mem = first_bytes p q xs

      a_word : (j : ℕ) → j < words_in p xs → read 4 (from - base + 4 * j) flash ≡ read 4 (4 * j) mem
      a_word j lt =
          let long = words_long (words_in p xs) 0 mem in
          let z : 0 + 4 * j ≡ 4 * j = omega arith in
          h j (omega (arith, lt, long))
          ∙ (ap (cut 4) (word_there (words_in p xs) 0 mem j lt ∙ ap (λ x. read 4 x mem) z) ∙ cut_small 4 (read 4 (4 * j) mem) (read_fits 4 (4 * j) mem))

      byte_at : (k : ℕ) → k < 4 * words_in p xs → slice_index flash (from - base + k) % 256 ≡ slice_index mem k % 256
      byte_at k lt =
          let j : ℕ = k / 4 in
          let r : ℕ = k % 4 in
          let m : k ≡ 4 * j + r = omega arith in
          let b = bytes_of 4 (from - base + 4 * j) (4 * j) flash mem (a_word j (omega (arith, lt))) r (omega arith) in
          let s : from - base + 4 * j + r ≡ from - base + k = omega arith in
          subst (λ x. slice_index flash x % 256 ≡ slice_index mem k % 256) s (subst (λ x. slice_index flash (from - base + 4 * j + r) % 256 ≡ slice_index mem x % 256) (sym m) b)

      moved : (i : ℕ) → slice_index flash (from - base + (a + i)) % 256 ≡ slice_index mem (a + i) % 256 → slice_index flash (from - base + a + i) % 256 ≡ slice_index mem (a + i) % 256
      moved i e = let s : from - base + (a + i) ≡ from - base + a + i = omega arith in subst (λ x. slice_index flash x % 256 ≡ slice_index mem (a + i) % 256) s e

-- Words and runs of bytes within a list of bytes.
use Rattle.std.proofs.Common.{◌≡◌, ℕ, ◌+◌, ◌-◌, ◌*◌, ◌/◌, ◌%◌, ◌^◌, ◌<◌, ◌≤◌, List, [], ◌∷◌, ◌++◌, length, get_or, take, drop, refl, sym, ap, ◌∙◌, arith, length-drop, length-append}
use Rattle.std.proofs.lemmas.List.{drop_more, drop-drop}
use Rattle.std.proofs.Math.Seq.{take-append_seam, drop-append_seam}
use Rattle.std.specs.List.{slice_range}
use Rattle.base_words.specs.Bytes.{read}
use Rattle.machine_image.specs.Text.{word_bytes}
use Rattle.machine_image.specs.Parts.{number}

abbrev pub AreBytes : List ℕ → Type 0
AreBytes b = (k : ℕ) → get_or b k 0 < 2 ^ 8

-- the number of four bytes
abbrev joined : (x y z w : ℕ) → ℕ
joined x y z w = x % 256 + 256 * (y % 256 + 256 * (z % 256 + 256 * (w % 256 + 256 * 0)))

number-joined : (b : List ℕ) (at : ℕ) → number b at ≡ joined (get_or b at 0) (get_or b (at + 1) 0) (get_or b (at + 1 + 1) 0) (get_or b (at + 1 + 1 + 1) 0)
unfolding read
number-joined b at = refl

-- a word is spelled by its own bytes
word_bytes-joined : (x y z w : ℕ) → x < 2 ^ 8 → y < 2 ^ 8 → z < 2 ^ 8 → w < 2 ^ 8 → word_bytes (joined x y z w) ≡ x ∷ y ∷ z ∷ w ∷ []
unfolding word_bytes
word_bytes-joined x y z w hx hy hz hw =
    let e0 : joined x y z w % 2 ^ 8 ≡ x = omega arith in
    let e1 : joined x y z w / 2 ^ 8 % 2 ^ 8 ≡ y = omega arith in
    let e2 : joined x y z w / 2 ^ 16 % 2 ^ 8 ≡ z = omega arith in
    let e3 : joined x y z w / 2 ^ 24 % 2 ^ 8 ≡ w = omega arith in
    cc

joined-word : (n : ℕ) → n < 2 ^ 32 → joined (n % 2 ^ 8) (n / 2 ^ 8 % 2 ^ 8) (n / 2 ^ 16 % 2 ^ 8) (n / 2 ^ 24 % 2 ^ 8) ≡ n
joined-word n h = omega arith

four : (b : List ℕ) (at : ℕ) → at + 4 ≤ length b → drop at b ≡ get_or b at 0 ∷ get_or b (at + 1) 0 ∷ get_or b (at + 1 + 1) 0 ∷ get_or b (at + 1 + 1 + 1) 0 ∷ drop (at + 4) b
four b at h =
    let h0 : at < length b = omega arith in
    let h1 : at + 1 < length b = omega arith in
    let h2 : at + 1 + 1 < length b = omega arith in
    let h3 : at + 1 + 1 + 1 < length b = omega arith in
    let e : at + 1 + 1 + 1 + 1 ≡ at + 4 = omega arith in
    drop_more b at 0 h0
    ∙ ap (λ t. get_or b at 0 ∷ t) (drop_more b (at + 1) 0 h1
    ∙ ap (λ t. get_or b (at + 1) 0 ∷ t) (drop_more b (at + 1 + 1) 0 h2
    ∙ ap (λ t. get_or b (at + 1 + 1) 0 ∷ t) (drop_more b (at + 1 + 1 + 1) 0 h3
    ∙ ap (λ k. get_or b (at + 1 + 1 + 1) 0 ∷ drop k b) e)))

-- the bytes from an offset on begin with the word that is there
pub word_at : (b : List ℕ) (at : ℕ) → AreBytes b → at + 4 ≤ length b → drop at b ≡ word_bytes (number b at) ++ drop (at + 4) b
word_at b at bytes h =
    four b at h
    ∙ ap (λ xs. xs ++ drop (at + 4) b) (sym (ap word_bytes (number-joined b at)
    ∙ word_bytes-joined (get_or b at 0) (get_or b (at + 1) 0) (get_or b (at + 1 + 1) 0) (get_or b (at + 1 + 1 + 1) 0) (bytes at) (bytes (at + 1)) (bytes (at + 1 + 1)) (bytes (at + 1 + 1 + 1))))

-- where the bytes from an offset on begin with some bytes, those are there, and the rest follows
pub record Begins (b : List ℕ) (at : ℕ) (xs rest : List ℕ) : Type 0 where
  pub part : slice_range b at (at + length xs) ≡ xs
  pub behind : drop (at + length xs) b ≡ rest
  pub within : at + length xs ≤ length b

pub begins : (b : List ℕ) (at : ℕ) (xs rest : List ℕ) → at ≤ length b → drop at b ≡ xs ++ rest → Begins b at xs rest
begins b at xs rest h e = record {
  part = ap (λ k. take k (drop at b)) (let d : at + length xs - at ≡ length xs = omega arith in d) ∙ (ap (take (length xs)) e ∙ take-append_seam xs rest);
  behind = sym (drop-drop (length xs) at b) ∙ (ap (drop (length xs)) e ∙ drop-append_seam xs rest);
  within = let long : length (drop at b) ≡ length xs + length rest = ap length e ∙ length-append xs rest in omega (arith, length-drop at b);
}

-- where they begin with a word, it is the number there
pub record BeginsWord (b : List ℕ) (at n : ℕ) (rest : List ℕ) : Type 0 where
  pub value : number b at ≡ n
  pub behind : drop (at + 4) b ≡ rest
  pub within : at + 4 ≤ length b

pub begins_word : (b : List ℕ) (at n : ℕ) (rest : List ℕ) → n < 2 ^ 32 → at ≤ length b → drop at b ≡ word_bytes n ++ rest → BeginsWord b at n rest
unfolding word_bytes
begins_word b at n rest small h e =
    let start = begins b at (word_bytes n) rest h e in
    let within : at + 4 ≤ length b = start.within in
    let four_bytes : word_bytes n ++ rest ≡ get_or b at 0 ∷ get_or b (at + 1) 0 ∷ get_or b (at + 1 + 1) 0 ∷ get_or b (at + 1 + 1 + 1) 0 ∷ drop (at + 4) b = sym e ∙ four b at within in
    let b0 : get_or b at 0 ≡ n % 2 ^ 8 = cc in
    let b1 : get_or b (at + 1) 0 ≡ n / 2 ^ 8 % 2 ^ 8 = cc in
    let b2 : get_or b (at + 1 + 1) 0 ≡ n / 2 ^ 16 % 2 ^ 8 = cc in
    let b3 : get_or b (at + 1 + 1 + 1) 0 ≡ n / 2 ^ 24 % 2 ^ 8 = cc in
    record {
      value = number-joined b at ∙ (let same : joined (get_or b at 0) (get_or b (at + 1) 0) (get_or b (at + 1 + 1) 0) (get_or b (at + 1 + 1 + 1) 0) ≡ joined (n % 2 ^ 8) (n / 2 ^ 8 % 2 ^ 8) (n / 2 ^ 16 % 2 ^ 8) (n / 2 ^ 24 % 2 ^ 8) = cc in same ∙ joined-word n small);
      behind = start.behind;
      within = within;
    }

-- Start-up's copies: each range of RAM holds its words of flash.
use Rattle.std.proofs.Common.{◌≡◌, ℕ, zero, suc, ◌+◌, ◌-◌, ◌*◌, ◌/◌, ◌%◌, ◌^◌, ◌<◌, ◌≤◌, ◌⊎◌, inl, inr, ⊎_elim, List, [], ◌∷◌, length, get_or, refl, sym, ap, ap₂, ◌∙◌, subst, arith}
use Rattle.std.proofs.lemmas.Bool.{cases_lt}
use Rattle.base_words.specs.Bytes.{read, write, write_all}
use Rattle.base_words.proofs.Bytes.{length-write, length-write_all, byte_inside, byte_apart_all}
use Rattle.machine_devices.specs.declared.image.Image.{Image}
use Rattle.base_laws.specs.Lists.{Each}
use Rattle.base_ranges.specs.Ranges.{AreApart}
use Rattle.machine_model.specs.Stack.{words_at}
use Rattle.monitor_model.specs.declared.tables.InitRecord.{InitRecord}
use Rattle.monitor_model.specs.declared.tables.Tables.{Tables}
use Rattle.monitor_model.specs.Records.{words_in}
use Rattle.monitor_model.specs.Promises.{RangesAreApart}
use Rattle.monitor_model.specs.Starts.{with_words, with_all_words}
use Rattle.monitor_sound.specs.Simulation.{IsRange}
use Rattle.monitor_sound.proofs.Memory.{read_off_all}
use Rattle.machine_model.proofs.StackWords.{length-words_at as length-words}

-- reads of equal bytes
read_moved : (w a b : ℕ) (xs ys : List ℕ) → ((k : ℕ) → k < w → get_or xs (a + k) 0 % 256 ≡ get_or ys (b + k) 0 % 256) → read w a xs ≡ read w b ys
unfolding read
read_moved zero a b xs ys h = refl
read_moved (suc w) a b xs ys h =
    let z : a + 0 ≡ a = omega arith in
    let y : b + 0 ≡ b = omega arith in
    let first : get_or xs a 0 % 256 ≡ get_or ys b 0 % 256 = ap (λ (n : ℕ). get_or xs n 0 % 256) (sym z) ∙ h 0 (omega arith) ∙ ap (λ (n : ℕ). get_or ys n 0 % 256) y in
    let rest = read_moved w (a + 1) (b + 1) xs ys (λ k lt.
    let p : a + 1 + k ≡ a + suc k = omega arith in
    let q : b + 1 + k ≡ b + suc k = omega arith in
    ap (λ (n : ℕ). get_or xs n 0 % 256) p ∙ h (suc k) (omega (arith, lt)) ∙ ap (λ (n : ℕ). get_or ys n 0 % 256) (sym q)) in
    ap₂ (λ (x y : ℕ). x + 256 * y) first rest

-- byte k of a word
word_byte : (k o : ℕ) (mem : List ℕ) → k < 4 → read 4 o mem / 256 ^ k % 256 % 256 ≡ get_or mem (o + k) 0 % 256
unfolding read
word_byte zero o mem lt = let z : o + 0 ≡ o = omega arith in rw z (omega arith)
word_byte (suc zero) o mem lt = omega arith
word_byte (suc (suc zero)) o mem lt =
    let z : o + 1 + 1 ≡ o + 2 = omega arith in
    let e : read 4 o mem / 256 ^ 2 % 256 % 256 ≡ get_or mem (o + 1 + 1) 0 % 256 = omega arith in
    e ∙ ap (λ (n : ℕ). get_or mem n 0 % 256) z
word_byte (suc (suc (suc zero))) o mem lt =
    let z : o + 1 + 1 + 1 ≡ o + 3 = omega arith in
    let e : read 4 o mem / 256 ^ 3 % 256 % 256 ≡ get_or mem (o + 1 + 1 + 1) 0 % 256 = omega arith in
    e ∙ ap (λ (n : ℕ). get_or mem n 0 % 256) z
word_byte (suc (suc (suc (suc k)))) o mem lt = absurd (omega (arith, lt))

-- words put somewhere else are the same bytes
copied_byte : (n o q k : ℕ) (mem flash : List ℕ) → k < 4 * n → o + 4 * n ≤ length mem → get_or (write_all 4 o (words_at n q flash) mem) (o + k) 0 % 256 ≡ get_or flash (q + k) 0 % 256
unfolding words_at write_all
copied_byte zero o q k mem flash lt long = absurd (omega (arith, lt))
copied_byte (suc n) o q k mem flash lt long =
    let same = length-write 4 o (read 4 q flash) mem in
    ⊎_elim
    (λ first.
    let kept = byte_apart_all 4 (o + 4) (words_at n (q + 4) flash) (write 4 o (read 4 q flash) mem) (o + k) (λ j l e. omega (arith, first, e)) in
    let put = byte_inside 4 o (read 4 q flash) mem k first (omega (arith, long)) in
    ap (λ (b : ℕ). b % 256) (kept ∙ put) ∙ word_byte k q flash first)
    (λ later.
    let p : o + k ≡ o + 4 + (k - 4) = omega (arith, later) in
    let r : q + 4 + (k - 4) ≡ q + k = omega (arith, later) in
    ap (λ (b : ℕ). get_or (write_all 4 (o + 4) (words_at n (q + 4) flash) (write 4 o (read 4 q flash) mem)) b 0 % 256) p
    ∙ copied_byte n (o + 4) (q + 4) (k - 4) (write 4 o (read 4 q flash) mem) flash (omega (arith, lt, later)) (omega (arith, long, same))
    ∙ ap (λ (b : ℕ). get_or flash b 0 % 256) r)
    (cases_lt k 4)

apart_reads : (rb at end at' end' a w n : ℕ) → rb ≤ at → rb ≤ at' → at ≤ rb + a → rb + a + w ≤ end → 4 * n ≤ end' - at' → (at + (end - at) ≤ at') ⊎ (at' + (end' - at') ≤ at) → AreApart a w (at' - rb) (4 * n)
apart_reads rb at end at' end' a w n r r' lo hi le (inl h) = inl (omega (arith, r, r', lo, hi, le, h))
apart_reads rb at end at' end' a w n r r' lo hi le (inr h) = inr (omega (arith, r, r', lo, hi, le, h))

quarter : (z : ℕ) → 4 * (z / 4) ≤ z
quarter z = omega arith

whole_quarter : (z : ℕ) → z % 4 ≡ 0 → 4 * (z / 4) ≡ z
whole_quarter z h = omega arith

module _ (i : Image) (t : Tables) where
  abbrev In : InitRecord → ℕ → ℕ → Type 0
  In n w a = (n.at ≤ i.ram_base + a) × (i.ram_base + a + w ≤ n.end)

  words_length : (n : InitRecord) (ram : List ℕ) → length (with_words i n ram) ≡ length ram
  words_length n ram = length-write_all 4 (n.at - i.ram_base) (words_at (words_in n) (n.from - i.flash_base) i.flash) ram

  -- other ranges stay
  others : (n : InitRecord) (ks : List InitRecord) (ram : List ℕ) (w a : ℕ) → IsRange i t n → Each (IsRange i t) ks → Each (λ (k : InitRecord). AreApart n.at (n.end - n.at) k.at (k.end - k.at)) ks → In n w a →
      read w a (with_all_words i ks ram) ≡ read w a ram
  others n [] ram w a r rs apart x = refl
  others n (k ∷ ks) ram w a r rs apart x =
      others n ks (with_words i k ram) w a r rs.1 apart.1 x
      ∙ read_off_all w a (k.at - i.ram_base) (words_at (words_in k) (k.from - i.flash_base) i.flash) ram
      (subst (λ (l : ℕ). AreApart a w (k.at - i.ram_base) (4 * l)) (sym (length-words (words_in k) (k.from - i.flash_base) i.flash))
      (apart_reads i.ram_base n.at n.end k.at k.end a w (words_in k) r.in_ram.0 rs.0.in_ram.0 x.0 x.1 (quarter (k.end - k.at)) apart.0))

  -- a range has its words
  own : (n : InitRecord) (ram : List ℕ) (w a : ℕ) → length ram ≡ i.ram_size → IsRange i t n → In n w a →
      read w a (with_words i n ram) ≡ read w (n.from - i.flash_base + (i.ram_base + a - n.at)) i.flash
  own n ram w a long r x =
      let o : ℕ = n.at - i.ram_base in
      let q : ℕ = n.from - i.flash_base in
      let d : ℕ = i.ram_base + a - n.at in
      let lo = x.0 in
      let hi = x.1 in
      let base = r.in_ram.0 in
      let room = r.in_ram.1 in
      let all = whole_quarter (n.end - n.at) r.whole in
      read_moved w a (q + d) (with_words i n ram) i.flash (λ k lt.
      let p : a + k ≡ o + (d + k) = omega (arith, lo, base) in
      let s : q + (d + k) ≡ q + d + k = omega arith in
      ap (λ (b : ℕ). get_or (with_words i n ram) b 0 % 256) p
      ∙ copied_byte (words_in n) o q (d + k) ram i.flash (omega (arith, lo, hi, lt, all)) (omega (arith, long, base, room, all))
      ∙ ap (λ (b : ℕ). get_or i.flash b 0 % 256) s)

  pub all_copied : (ns : List InitRecord) (ram : List ℕ) → length ram ≡ i.ram_size → Each (IsRange i t) ns → RangesAreApart ns →
      Each (λ (n : InitRecord). (w a : ℕ) → n.at ≤ i.ram_base + a → i.ram_base + a + w ≤ n.end →
      read w a (with_all_words i ns ram) ≡ read w (n.from - i.flash_base + (i.ram_base + a - n.at)) i.flash) ns
  all_copied [] ram long rs apart = tt
  all_copied (n ∷ ns) ram long rs apart = (
    (λ w a lo hi. others n ns (with_words i n ram) w a rs.0 rs.1 apart.0 (lo, hi) ∙ own n ram w a long rs.0 (lo, hi)),
    all_copied ns (with_words i n ram) (words_length n ram ∙ long) rs.1 apart.1,
  )

  pub each_kept : (P Q : InitRecord → Type 0) (ns : List InitRecord) → ((n : InitRecord) → IsRange i t n → P n → Q n) → Each (IsRange i t) ns → Each P ns → Each Q ns
  each_kept P Q [] f rs h = tt
  each_kept P Q (n ∷ ns) f rs h = (f n rs.0 h.0, each_kept P Q ns f rs.1 h.1)

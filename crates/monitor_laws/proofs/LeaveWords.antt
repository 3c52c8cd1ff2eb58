-- The words that leave stores: five of the block, and the result in the frame that waits.
use Rattle.std.proofs.Common.{◌≡◌, ℕ, suc, ◌+◌, ◌-◌, ◌*◌, ◌/◌, ◌%◌, ◌^◌, ◌<◌, ◌≤◌, ◌⊎◌, inl, inr, ⊎_elim, List, length, ap, ◌∙◌, arith}
use Rattle.base_words.specs.Arithmetic.{add, subtract}
use Rattle.base_words.specs.Bytes.{read, write}
use Rattle.monitor_steps.proofs.Gives.{word_same, word_apart, word_fits}
use Rattle.monitor_program.specs.Constants.{Constants, constants_with}
use Rattle.monitor_laws.proofs.Placement.{block_is, writable, Installed}
use Rattle.monitor_laws.proofs.HandlerWords.{Changed, changed_write, changed_in, changed_none, InStack, apart_from_block}

-- a word beside a store is that before it
pub beside : (a o v : ℕ) (m n : List ℕ) → n ≡ write 4 o v m → (a + 4 ≤ o) ⊎ (o + 4 ≤ a) → read 4 a n ≡ read 4 a m
beside a o v m n e h = ap (λ n. read 4 a n) e ∙ word_apart a o v m h

-- the word of a store
pub stored : (o v : ℕ) (m n : List ℕ) → n ≡ write 4 o v m → o + 4 ≤ length m → v < 2 ^ 32 → read 4 o n ≡ v
stored o v m n e h l = ap (λ n. read 4 o n) e ∙ word_same o v m h l

module _ (installed : Installed) where
  open installed use {image as i, tables as t, placed as p, has_tables as has, stub}

  abbrev k : Constants
  k = constants_with stub t

  abbrev block : ℕ
  block = t.monitor - i.ram_base

  -- what leave reads: DEPTH is one more than the number of the last saved entry, which has these words
  pub record Leaving (m : List ℕ) (d back current top mark : ℕ) : Type 0 where
    pub depth : read 4 (block + 8) m ≡ suc d
    pub few : d < 8
    pub saved_psp : read 4 (block + (16 * d + 32)) m ≡ i.ram_base + back
    pub saved_current : read 4 (block + (16 * d + 36)) m ≡ current
    pub saved_top : read 4 (block + (16 * d + 40)) m ≡ top
    pub saved_mark : read 4 (block + (16 * d + 44)) m ≡ mark
    pub as_long : length m ≡ i.ram_size

  -- what it leaves: the block's words are those of the caller, LOANS is what MARK was, the callee's r0 stands in the frame that
  -- waits, and all else of RAM stays
  pub record HasLeft (o : ℕ) (old new : List ℕ) (d back current top mark : ℕ) : Type 0 where
    pub current_is : read 4 (block + 0) new ≡ current
    pub top_is : read 4 (block + 4) new ≡ top
    pub depth : read 4 (block + 8) new ≡ d
    pub loans : read 4 (block + 12) new ≡ read 4 (block + 16) old
    pub mark_is : read 4 (block + 16) new ≡ mark
    pub result : read 4 back new ≡ read 4 o old
    pub others : (w a : ℕ) → (a + w ≤ block) ⊎ (block + 20 ≤ a) → (a + w ≤ back) ⊎ (back + 4 ≤ a) → read w a new ≡ read w a old
    pub as_long : length new ≡ length old

  -- the five stores in their order
  pub record Five (m m1 m2 m3 m4 m5 : List ℕ) (n v1 v2 v3 v4 : ℕ) : Type 0 where
    pub w1 : m1 ≡ write 4 (block + 8) n m
    pub w2 : m2 ≡ write 4 (block + 12) v1 m1
    pub w3 : m3 ≡ write 4 (block + 0) v2 m2
    pub w4 : m4 ≡ write 4 (block + 4) v3 m3
    pub w5 : m5 ≡ write 4 (block + 16) v4 m4
    pub z1 : length m1 ≡ length m
    pub z2 : length m2 ≡ length m1
    pub z3 : length m3 ≡ length m2
    pub z4 : length m4 ≡ length m3

  pub five_others : (m m1 m2 m3 m4 m5 : List ℕ) (n v1 v2 v3 v4 : ℕ) → Five m m1 m2 m3 m4 m5 n v1 v2 v3 v4 → Changed block (block + 20) m m5
  five_others m m1 m2 m3 m4 m5 n v1 v2 v3 v4 s =
      let lo : ℕ = block in
      let hi : ℕ = block + 20 in
      let c1 = changed_in lo hi (lo + 8) n m m m1 (changed_none lo hi m) (omega arith) (omega arith) s.w1 in
      let c2 = changed_in lo hi (lo + 12) v1 m m1 m2 c1 (omega arith) (omega arith) s.w2 in
      let c3 = changed_in lo hi (lo + 0) v2 m m2 m3 c2 (omega arith) (omega arith) s.w3 in
      let c4 = changed_in lo hi (lo + 4) v3 m m3 m4 c3 (omega arith) (omega arith) s.w4 in
      changed_in lo hi (lo + 16) v4 m m4 m5 c4 (omega arith) (omega arith) s.w5

  -- ---- numbers

  pub one_less : (n x d : ℕ) → n ≡ subtract x 1 → x ≡ suc d → d < 8 → n ≡ d
  one_less n x d a b c = omega (arith, a, b, c)

  pub entry_is : (q s d : ℕ) → q ≡ add s k.block → s ≡ 16 * d → d < 8 → q ≡ t.monitor + 16 * d
  entry_is q s d a b c =
      let e = block_is installed in let l = p.block_inside.1 in let h = p.rules.ram_highest in let m = p.rules.ram_most in
      omega (arith, a, b, c, e, l, h, m)

  pub whole_word : (a o : ℕ) → a ≡ i.ram_base + o → o % 4 ≡ 0 → a / 4 * 4 ≡ i.ram_base + o
  whole_word a o e h = let r = p.rules.ram_aligned in omega (arith, e, h, r)

  -- ---- words behind stores

  block_room : (m : List ℕ) → length m ≡ i.ram_size → block + 1024 ≤ length m
  block_room m e = let a = p.block_inside.0 in let b = p.block_inside.1 in omega (arith, e, a, b)

  -- what was loaded and stored, by the words before
  pub record FiveSay (m m5 : List ℕ) (v2 v3 d back current top mark : ℕ) : Type 0 where
    pub v2_is : v2 ≡ current
    pub v3_is : v3 ≡ top
    pub current_is : read 4 (block + 0) m5 ≡ current
    pub top_is : read 4 (block + 4) m5 ≡ top
    pub depth : read 4 (block + 8) m5 ≡ d
    pub loans : read 4 (block + 12) m5 ≡ read 4 (block + 16) m
    pub mark_is : read 4 (block + 16) m5 ≡ mark
    pub psp_is : read 4 (block + (16 * d + 32)) m5 ≡ i.ram_base + back

  pub five_say : (m m1 m2 m3 m4 m5 : List ℕ) (n v1 v2 v3 v4 d back current top mark : ℕ) → Five m m1 m2 m3 m4 m5 n v1 v2 v3 v4 → Leaving m d back current top mark →
      n ≡ d → v1 ≡ read 4 (block + 16) m1 → v2 ≡ read 4 (block + (16 * d + 36)) m2 → v3 ≡ read 4 (block + (16 * d + 40)) m3 → v4 ≡ read 4 (block + (16 * d + 44)) m4 → FiveSay m m5 v2 v3 d back current top mark
  five_say m m1 m2 m3 m4 m5 n v1 v2 v3 v4 d back current top mark s lv en e1 e2 e3 e4 =
      record {
        v2_is = v2_is;
        v3_is = v3_is;
        current_is = beside (block + 0) (block + 16) v4 m4 m5 s.w5 (inl (omega arith)) ∙ beside (block + 0) (block + 4) v3 m3 m4 s.w4 (inl (omega arith)) ∙ stored (block + 0) v2 m2 m3 s.w3 (omega (arith, room, y1, y2)) (let f = word_fits (block + (16 * d + 36)) m2 in omega (arith, e2, f)) ∙ v2_is;
        top_is = beside (block + 4) (block + 16) v4 m4 m5 s.w5 (inl (omega arith)) ∙ stored (block + 4) v3 m3 m4 s.w4 (omega (arith, room, y1, y2, y3)) (let f = word_fits (block + (16 * d + 40)) m3 in omega (arith, e3, f)) ∙ v3_is;
        depth = beside (block + 8) (block + 16) v4 m4 m5 s.w5 (inl (omega arith)) ∙ beside (block + 8) (block + 4) v3 m3 m4 s.w4 (inr (omega arith)) ∙ beside (block + 8) (block + 0) v2 m2 m3 s.w3 (inr (omega arith)) ∙ beside (block + 8) (block + 12) v1 m1 m2 s.w2 (inl (omega arith)) ∙ stored (block + 8) n m m1 s.w1 (omega (arith, room)) (let f = lv.few in omega (arith, en, f)) ∙ en;
        loans = beside (block + 12) (block + 16) v4 m4 m5 s.w5 (inl (omega arith)) ∙ beside (block + 12) (block + 4) v3 m3 m4 s.w4 (inr (omega arith)) ∙ beside (block + 12) (block + 0) v2 m2 m3 s.w3 (inr (omega arith)) ∙ stored (block + 12) v1 m1 m2 s.w2 (omega (arith, room, y1)) (let f = word_fits (block + 16) m1 in omega (arith, e1, f)) ∙ e1 ∙ beside (block + 16) (block + 8) n m m1 s.w1 (inr (omega arith));
        mark_is = stored (block + 16) v4 m4 m5 s.w5 (omega (arith, room, y1, y2, y3, y4)) (let f = word_fits (block + (16 * d + 44)) m4 in omega (arith, e4, f)) ∙ e4 ∙ to4 (block + (16 * d + 44)) (omega arith) ∙ lv.saved_mark;
        psp_is = beside (block + (16 * d + 32)) (block + 16) v4 m4 m5 s.w5 (inr (omega arith)) ∙ to4 (block + (16 * d + 32)) (omega arith) ∙ lv.saved_psp;
      }
    where
      y1 : length m1 ≡ length m
      y1 = s.z1

      y2 : length m2 ≡ length m1
      y2 = s.z2

      y3 : length m3 ≡ length m2
      y3 = s.z3

      y4 : length m4 ≡ length m3
      y4 = s.z4

      room : block + 1024 ≤ length m
      room = block_room m lv.as_long

      -- behind the five words all stands as before
      to2 : (a : ℕ) → block + 20 ≤ a → read 4 a m2 ≡ read 4 a m
      to2 a h = beside a (block + 12) v1 m1 m2 s.w2 (inr (omega (arith, h))) ∙ beside a (block + 8) n m m1 s.w1 (inr (omega (arith, h)))

      to3 : (a : ℕ) → block + 20 ≤ a → read 4 a m3 ≡ read 4 a m
      to3 a h = beside a (block + 0) v2 m2 m3 s.w3 (inr (omega (arith, h))) ∙ to2 a h

      to4 : (a : ℕ) → block + 20 ≤ a → read 4 a m4 ≡ read 4 a m
      to4 a h = beside a (block + 4) v3 m3 m4 s.w4 (inr (omega (arith, h))) ∙ to3 a h

      v2_is : v2 ≡ current
      v2_is = e2 ∙ to2 (block + (16 * d + 36)) (omega arith) ∙ lv.saved_current

      v3_is : v3 ≡ top
      v3_is = e3 ∙ to3 (block + (16 * d + 40)) (omega arith) ∙ lv.saved_top

  -- and with the result stored
  pub all_left : (o : ℕ) (m m5 m6 : List ℕ) (v2 v3 v6 d back current top mark : ℕ) → Changed block (block + 20) m m5 → FiveSay m m5 v2 v3 d back current top mark → length m ≡ i.ram_size → InStack i t back top → InStack i t o top →
      m6 ≡ write 4 (back + 4 * 0) v6 m5 → v6 ≡ read 4 (o + 4 * 0) m5 → HasLeft o m m6 d back current top mark
  all_left o m m5 m6 v2 v3 v6 d back current top mark ch s long ib io w6 e6 = record {
    current_is = off (block + 0) (omega arith) (omega arith) ∙ s.current_is;
    top_is = off (block + 4) (omega arith) (omega arith) ∙ s.top_is;
    depth = off (block + 8) (omega arith) (omega arith) ∙ s.depth;
    loans = off (block + 12) (omega arith) (omega arith) ∙ s.loans;
    mark_is = off (block + 16) (omega arith) (omega arith) ∙ s.mark_is;
    result = stored back v6 m5 m6 w6z room (let f = word_fits o m in omega (arith, v6_is, f)) ∙ v6_is;
    others = λ w a h k. (changed_write back v6 m5 m6 w6z).reads w a k ∙ ch.reads w a h;
    as_long = (changed_write back v6 m5 m6 w6z).as_long ∙ ch.as_long;
  }
    where
      w6z : m6 ≡ write 4 back v6 m5
      w6z = w6 ∙ (let z : back + 4 * 0 ≡ back = omega arith in ap (λ b. write 4 b v6 m5) z)

      off : (a : ℕ) → block ≤ a → a + 4 ≤ block + 20 → read 4 a m6 ≡ read 4 a m5
      off a x y = beside a back v6 m5 m6 w6z (⊎_elim (λ q. inl (omega (arith, q, y))) (λ q. inr (omega (arith, q, x))) (apart_from_block i t back top p ib))

      same : read 4 o m5 ≡ read 4 o m
      same = ch.reads 4 o (⊎_elim (λ q. inr (omega (arith, q))) (λ q. inl (omega (arith, q))) (apart_from_block i t o top p io))

      v6_is : v6 ≡ read 4 o m
      v6_is = e6 ∙ (let z : o + 4 * 0 ≡ o = omega arith in ap (λ o. read 4 o m5) z) ∙ same

      room : back + 4 ≤ length m5
      room = let c = ch.as_long in let h = ib.high in let e = ib.ends in let a = (writable installed).stack_inside.1 in omega (arith, c, long, h, e, a)

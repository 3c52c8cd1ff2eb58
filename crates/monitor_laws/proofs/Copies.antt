-- The copying of initial words, with its steps.
use Rattle.std.proofs.Common.{◌≡◌, ℕ, zero, suc, ◌+◌, ◌-◌, ◌*◌, ◌%◌, ◌^◌, ◌<◌, ◌≤◌, List, [], ◌∷◌, length, get_or, refl, sym, ap, ◌∙◌, subst, arith}
use Rattle.std.specs.Prelude.{flat_map, sum_by}
use Rattle.std.proofs.lemmas.List.Sums.{sum_by-cons}
use Rattle.base_words.specs.Arithmetic.{add, subtract, shift_right}
use Rattle.base_words.specs.Bytes.{read, write, write_all}
use Rattle.base_words.specs.declared.memory.Width.TheVariants.{Word}
use Rattle.machine_protection.specs.declared.region.Access.TheVariants.{Read, Write}
use Rattle.machine_devices.specs.declared.image.Image.{Image}
use Rattle.machine_devices.specs.Rules.{ObeysRules}
use Rattle.machine_model.specs.declared.state.ProtectionState.{ProtectionState}
use Rattle.machine_model.specs.declared.state.FaultStatus.{FaultStatus}
use Rattle.machine_model.specs.State.{by_mpu}
use Rattle.machine_model.specs.Stack.{words_at}
use Rattle.base_laws.specs.Lists.{Each}
use Rattle.monitor_steps.specs.Steps.{PrivilegedSteps, Repeat}
use Rattle.monitor_steps.specs.Core.{Core, low_register}
use Rattle.monitor_steps.specs.Effect.{Outcome, Went, with_one_less}
use Rattle.monitor_steps.specs.Safe.{Rule}
use Rattle.monitor_steps.proofs.Gives.{Open}
use Rattle.monitor_steps.proofs.Within.{GivesWithin, end_within, const_within, alu_within, at_within, more_within, loop_within, load_flash_within, store_within}
use Rattle.monitor_model.specs.declared.tables.InitRecord.{InitRecord}
use Rattle.monitor_model.specs.Records.{words_in}
use Rattle.monitor_model.specs.Area.{init_words}
use Rattle.monitor_model.specs.Starts.{with_words, with_all_words}
use Rattle.monitor_model.proofs.Beyond.{no_init}
use Rattle.monitor_program.specs.Constants.{Constants}
use Rattle.monitor_program.specs.Reset.{word_turn, init_turn}
use Rattle.monitor_laws.proofs.Numbers.{quarter}
use Rattle.monitor_laws.proofs.Off.{core}
use Rattle.monitor_laws.proofs.FlashWords.{Has}

-- a range of RAM and its words in flash, at least one, which may be written
pub record IsCopied (i : Image) (Allowed : Rule) (x : InitRecord) : Type 0 where
  pub at_aligned : x.at % 4 ≡ 0
  pub from_aligned : x.from % 4 ≡ 0
  pub whole : x.end ≡ x.at + 4 * words_in x
  pub some : 1 ≤ words_in x
  pub in_ram : i.ram_base ≤ x.at
  pub ram_room : x.end ≤ i.ram_base + i.ram_size
  pub in_flash : i.flash_base ≤ x.from
  pub flash_room : x.from + 4 * words_in x ≤ i.flash_base + length i.flash
  pub may_write : (c : Core) (a : ℕ) → x.at ≤ a → a + 4 ≤ x.end → Allowed Write c 4 a

-- steps for the last n ranges and the loop's end
abbrev pub last_steps : List InitRecord → (total n : ℕ) → ℕ
last_steps xs total zero = 3
last_steps xs total (suc n) = 26 + 16 * words_in (get_or xs (total - suc n) no_init) + last_steps xs total n

-- the last n of so many
pub record AreLast (xs ns : List InitRecord) (total n : ℕ) : Type 0 where
  pub few : n ≤ total
  pub count : length ns ≡ n
  pub same : (k : ℕ) → get_or ns k no_init ≡ get_or xs (total - n + k) no_init

pub all_are_last : (xs : List InitRecord) → AreLast xs xs (length xs) (length xs)
all_are_last xs = record { few = omega arith; count = refl; same = λ k. let e : k ≡ length xs - length xs + k = omega arith in ap (λ n. get_or xs n no_init) e }

behind_first : (xs ns : List InitRecord) (x : InitRecord) (total n : ℕ) → AreLast xs (x ∷ ns) total (suc n) → AreLast xs ns total n
behind_first xs ns x total n l = record {
  few = let f = l.few in omega (arith, f);
  count = let c = l.count in omega (arith, c);
  same = λ k. l.same (suc k) ∙ ap (λ n. get_or xs n no_init) (let f = l.few in moved k f);
}
  where
    moved : (k : ℕ) → suc n ≤ total → total - suc n + suc k ≡ total - n + k
    moved k f = omega (arith, f)

first_is : (xs ns : List InitRecord) (x : InitRecord) (total n : ℕ) → AreLast xs (x ∷ ns) total (suc n) → x ≡ get_or xs (total - suc n) no_init
first_is xs ns x total n l = l.same 0 ∙ ap (λ n. get_or xs n no_init) (let e : total - suc n + 0 ≡ total - suc n = omega arith in e)

-- all steps are few for the number of words
last_steps_are_few : (i : Image) (Allowed : Rule) (xs ns : List InitRecord) (total n : ℕ) → Each (IsCopied i Allowed) ns → AreLast xs ns total n → last_steps xs total n ≤ 3 + 42 * sum_by words_in ns
last_steps_are_few i Allowed xs [] total zero e l = omega arith
last_steps_are_few i Allowed xs [] total (suc n) e l = absurd (let c = l.count in omega (arith, c))
last_steps_are_few i Allowed xs (x ∷ ns) total zero e l = absurd (let c = l.count in omega (arith, c))
last_steps_are_few i Allowed xs (x ∷ ns) total (suc n) e l =
    let h = last_steps_are_few i Allowed xs ns total n e.1 (behind_first xs ns x total n l) in
    let f : words_in x ≡ words_in (get_or xs (total - suc n) no_init) = ap words_in (first_is xs ns x total n l) in
    subst (λ s. 26 + 16 * words_in (get_or xs (total - suc n) no_init) + last_steps xs total n ≤ 3 + 42 * s) (sym (sum_by-cons words_in x ns))
    (one_more (words_in x) (words_in (get_or xs (total - suc n) no_init)) (last_steps xs total n) (sum_by words_in ns) h f e.0.some)
  where
    one_more : (w v l s : ℕ) → l ≤ 3 + 42 * s → w ≡ v → 1 ≤ w → 26 + 16 * v + l ≤ 3 + 42 * (w + s)
    one_more w v l s a b c = omega (arith, a, b, c)

pub copying_is_short : (i : Image) (Allowed : Rule) (xs : List InitRecord) → Each (IsCopied i Allowed) xs → last_steps xs (length xs) (length xs) ≤ 3 + 42 * sum_by words_in xs
copying_is_short i Allowed xs e = last_steps_are_few i Allowed xs xs (length xs) (length xs) e (all_are_last xs)

module _ (i : Image) (rules : ObeysRules i) (t : Constants) (Good : ProtectionState → Type 0) (Allowed : Rule) where
  abbrev R : ℕ → PrivilegedSteps → List PrivilegedSteps → Core → (Outcome → Type 0) → Type 0
  R n s ks c Q = GivesWithin by_mpu i Good Allowed n s ks c Q

  module _ (may_read : (c : Core) (w o : ℕ) → o + w ≤ length i.flash → Allowed Read c w (i.flash_base + o)) (msp psp : ℕ) (u : FaultStatus) (q : ProtectionState) (open_q : Open by_mpu q) (good_q : Good q) where
    -- n words are left to be copied; with them RAM is `final`
    record Copying (final : List ℕ) (lo hi a0 a1 a5 a7 : ℕ) (n : ℕ) (c : Core) : Type 0 where
      pub to : ℕ
      pub from : ℕ
      pub v2 : ℕ
      pub v3 : ℕ
      pub v6 : ℕ
      pub ram : List ℕ
      pub to_aligned : to % 4 ≡ 0
      pub from_aligned : from % 4 ≡ 0
      pub low : lo ≤ to
      pub high : to + 4 * n ≤ hi
      pub ram_room : to + 4 * n ≤ i.ram_size
      pub flash_room : from + 4 * n ≤ length i.flash
      pub to_at : v2 ≡ i.ram_base + to
      pub from_at : v3 ≡ i.flash_base + from
      pub final_is : write_all 4 to (words_at n from i.flash) ram ≡ final
      pub is : c ≡ core msp psp q u ram a0 a1 v2 v3 n a5 v6 a7

    word_copied : (n to from : ℕ) (ram : List ℕ) → write_all 4 to (words_at (suc n) from i.flash) ram ≡ write_all 4 (to + 4) (words_at n (from + 4) i.flash) (write 4 to (read 4 from i.flash) ram)
    unfolding write_all words_at
    word_copied n to from ram = refl

    none_left : (to from : ℕ) (ram : List ℕ) → write_all 4 to (words_at 0 from i.flash) ram ≡ ram
    unfolding write_all words_at
    none_left to from ram = refl

    copy_turn : (final : List ℕ) (lo hi a0 a1 a5 a7 n : ℕ) (c : Core) → ((c : Core) (o : ℕ) → lo ≤ o → o + 4 ≤ hi → Allowed Write c 4 (i.ram_base + o)) → Copying final lo hi a0 a1 a5 a7 (suc n) c →
        R 12 word_turn [] c (λ o. (d : Core) × (o ≡ Went d) × Copying final lo hi a0 a1 a5 a7 n (with_one_less 4 d))
    copy_turn final lo hi a0 a1 a5 a7 n c may p =
        at_within p.is
        (load_flash_within rules p.from {z = Word} open_q (plus_none p.v3 (i.flash_base + p.from) p.from_at) (flash_al p.from_aligned) (flash_in p.flash_room) (may_read _ 4 p.from (flash_fits p.flash_room)) (λ v ev.
        store_within rules p.to open_q good_q (plus_none p.v2 (i.ram_base + p.to) p.to_at) p.to_aligned (ram_in p.ram_room) (may _ p.to p.low (high_in p.high)) (λ m1 w1 z1.
        const_within (alu_within (λ x ex. alu_within (λ y ey.
        end_within (
          _,
          refl,
          record {
            to = p.to + 4;
            from = p.from + 4;
            v2 = x;
            v3 = y;
            v6 = 4;
            ram = m1;
            to_aligned = let a = p.to_aligned in omega (arith, a);
            from_aligned = let a = p.from_aligned in omega (arith, a);
            low = let a = p.low in omega (arith, a);
            high = let a = p.high in omega (arith, a);
            ram_room = let a = p.ram_room in omega (arith, a);
            flash_room = let a = p.flash_room in omega (arith, a);
            to_at = next_to p.v2 p.to x ex p.to_at p.ram_room;
            from_at = next_from p.v3 p.from y ey p.from_at p.flash_room;
            final_is = ap (λ m. write_all 4 (p.to + 4) (words_at n (p.from + 4) i.flash) m) (w1 ∙ ap (λ v. write 4 p.to v p.ram) ev) ∙ sym (word_copied n p.to p.from p.ram) ∙ p.final_is;
            is = ap (λ z. core msp psp q u m1 a0 a1 x y z a5 4 a7) (one_off p.ram_room);
          },
        )))))))
      where
        plus_none : (v x : ℕ) → v ≡ x → v + 4 * 0 ≡ x
        plus_none v x e = omega (arith, e)

        flash_al : p.from % 4 ≡ 0 → (i.flash_base + p.from) % 4 ≡ 0
        flash_al a = let f = rules.flash_aligned in omega (arith, a, f)

        flash_in : p.from + 4 * suc n ≤ length i.flash → p.from < length i.flash
        flash_in a = omega (arith, a)

        flash_fits : p.from + 4 * suc n ≤ length i.flash → p.from + 4 ≤ length i.flash
        flash_fits a = omega (arith, a)

        ram_in : p.to + 4 * suc n ≤ i.ram_size → p.to + 4 ≤ i.ram_size
        ram_in a = omega (arith, a)

        high_in : p.to + 4 * suc n ≤ hi → p.to + 4 ≤ hi
        high_in a = omega (arith, a)

        next_to : (v to x : ℕ) → x ≡ add v 4 → v ≡ i.ram_base + to → to + 4 * suc n ≤ i.ram_size → x ≡ i.ram_base + (to + 4)
        next_to v to x e a s = let r = rules.ram_highest in let m = rules.ram_most in omega (arith, e, a, s, r, m)

        next_from : (v from x : ℕ) → x ≡ add v 4 → v ≡ i.flash_base + from → from + 4 * suc n ≤ length i.flash → x ≡ i.flash_base + (from + 4)
        next_from v from x e a s = let r = rules.flash_highest in let m = rules.flash_most in omega (arith, e, a, s, r, m)

        one_off : p.to + 4 * suc n ≤ i.ram_size → subtract (suc n) 1 ≡ n
        one_off a = let m = rules.ram_most in omega (arith, a, m)

    -- the words of one range, in 16 steps a word
    words_within : (x : InitRecord) (ram : List ℕ) (a0 a1 a5 a7 : ℕ) {b : ℕ} {k : PrivilegedSteps} {ks : List PrivilegedSteps} {Q : Outcome → Type 0} (a6 : ℕ) → IsCopied i Allowed x → words_in x ≤ t.words →
        ((v2 v3 v6 : ℕ) → R b k ks (core msp psp q u (with_words i x ram) a0 a1 v2 v3 0 a5 v6 a7) Q) →
        R (16 * words_in x + 3 + b) (Repeat 4 t.words word_turn k) ks (core msp psp q u ram a0 a1 x.at x.from (words_in x) a5 a6 a7) Q
    words_within x ram a0 a1 a5 a7 {b} {k} {ks} {Q} a6 h few w =
        let lo : ℕ = x.at - i.ram_base in
        let hi : ℕ = x.end - i.ram_base in
        loop_within (Copying (with_words i x ram) lo hi a0 a1 a5 a7) (λ n. 12) (λ n. 16 * n + 3) (words_in x) (omega arith) (λ n. step n) (λ n c p. ap (λ c. low_register c 4) p.is) (λ n c p. copy_turn (with_words i x ram) lo hi a0 a1 a5 a7 n c may p) few
        (record {
          to = lo;
          from = x.from - i.flash_base;
          v2 = x.at;
          v3 = x.from;
          v6 = a6;
          ram = ram;
          to_aligned = to_al h.at_aligned h.in_ram;
          from_aligned = from_al h.from_aligned h.in_flash;
          low = omega arith;
          high = ends h.whole h.in_ram;
          ram_room = fits h.whole h.ram_room h.in_ram;
          flash_room = flash_fits h.flash_room h.in_flash;
          to_at = above x.at i.ram_base h.in_ram;
          from_at = above x.from i.flash_base h.in_flash;
          final_is = refl;
          is = refl;
        })
        (λ d p. at_within (p.is ∙ ap (λ m. core msp psp q u m a0 a1 p.v2 p.v3 0 a5 p.v6 a7) (sym (none_left p.to p.from p.ram) ∙ p.final_is)) (w p.v2 p.v3 p.v6))
      where
        step : (n : ℕ) → 12 + 4 + (16 * n + 3) ≤ 16 * suc n + 3
        step n = omega arith

        may : (c : Core) (o : ℕ) → x.at - i.ram_base ≤ o → o + 4 ≤ x.end - i.ram_base → Allowed Write c 4 (i.ram_base + o)
        may c o a b = h.may_write c (i.ram_base + o) (omega (arith, a)) (omega (arith, b))

        to_al : x.at % 4 ≡ 0 → i.ram_base ≤ x.at → (x.at - i.ram_base) % 4 ≡ 0
        to_al a b = let r = rules.ram_aligned in omega (arith, a, b, r)

        from_al : x.from % 4 ≡ 0 → i.flash_base ≤ x.from → (x.from - i.flash_base) % 4 ≡ 0
        from_al a b = let r = rules.flash_aligned in omega (arith, a, b, r)

        ends : x.end ≡ x.at + 4 * words_in x → i.ram_base ≤ x.at → x.at - i.ram_base + 4 * words_in x ≤ x.end - i.ram_base
        ends a b = omega (arith, a, b)

        fits : x.end ≡ x.at + 4 * words_in x → x.end ≤ i.ram_base + i.ram_size → i.ram_base ≤ x.at → x.at - i.ram_base + 4 * words_in x ≤ i.ram_size
        fits a b c = omega (arith, a, b, c)

        flash_fits : x.from + 4 * words_in x ≤ i.flash_base + length i.flash → i.flash_base ≤ x.from → x.from - i.flash_base + 4 * words_in x ≤ length i.flash
        flash_fits a b = omega (arith, a, b)

        above : (a b : ℕ) → b ≤ a → a ≡ b + (a - b)
        above a b le = omega (arith, le)

    -- ---- all ranges

    -- n of the ranges are left to be filled; with them RAM is `final`
    record Filling (final : List ℕ) (xs : List InitRecord) (a5 a7 total : ℕ) (n : ℕ) (c : Core) : Type 0 where
      pub left : List InitRecord
      pub last : AreLast xs left total n
      pub ranges : Each (IsCopied i Allowed) left
      pub small : Each (λ x. words_in x ≤ t.words) left
      pub offset : ℕ
      pub has : Has i offset (flat_map init_words left)
      pub aligned : offset % 4 ≡ 0
      pub v0 : ℕ
      pub v2 : ℕ
      pub v3 : ℕ
      pub v4 : ℕ
      pub v6 : ℕ
      pub ram : List ℕ
      pub at : v0 ≡ i.flash_base + offset
      pub final_is : with_all_words i left ram ≡ final
      pub is : c ≡ core msp psp q u ram v0 n v2 v3 v4 a5 v6 a7

    abbrev Fills : (final : List ℕ) (xs : List InitRecord) (a5 a7 total n : ℕ) → Outcome → Type 0
    Fills final xs a5 a7 total n o = (d : Core) × (o ≡ Went d) × Filling final xs a5 a7 total n (with_one_less 1 d)

    -- the turn of range x
    fill_one : (final : List ℕ) (xs : List InitRecord) (a5 a7 total n : ℕ) (x : InitRecord) (left : List InitRecord) (o v0 v2 v3 v4 v6 : ℕ) (ram : List ℕ) → total < 2 ^ 20 → AreLast xs (x ∷ left) total (suc n) → IsCopied i Allowed x → words_in x ≤ t.words → Each (IsCopied i Allowed) left → Each (λ x. words_in x ≤ t.words) left →
        Has i o (x.at ∷ x.end ∷ x.from ∷ flat_map init_words left) → o % 4 ≡ 0 → v0 ≡ i.flash_base + o → with_all_words i left (with_words i x ram) ≡ final →
        R (22 + 16 * words_in x) (init_turn t) [] (core msp psp q u ram v0 (suc n) v2 v3 v4 a5 v6 a7) (Fills final xs a5 a7 total n)
    fill_one final xs a5 a7 total n x left o v0 v2 v3 v4 v6 ram small l h few hs ws has al at fin =
        more_within
        (load_flash_within rules o {z = Word} open_q (place 0 (i.flash_base + o) (none o)) (flash_al o al) (inside o has.1) (may_read _ 4 o has.1) (λ x2 e2.
        load_flash_within rules (o + 4) {z = Word} open_q (place 1 (i.flash_base + (o + 4)) refl) (flash_al (o + 4) (later o al)) (inside (o + 4) has.2.1) (may_read _ 4 (o + 4) has.2.1) (λ x4 e4.
        load_flash_within rules (o + 4 + 4) {z = Word} open_q (place 2 (i.flash_base + (o + 4 + 4)) (two o)) (flash_al (o + 4 + 4) (later (o + 4) (later o al))) (inside (o + 4 + 4) has.2.2.1) (may_read _ 4 (o + 4 + 4) has.2.2.1) (λ x3 e3.
        alu_within (λ y4 f4. const_within (alu_within (λ z4 g4.
        let n4 : z4 ≡ words_in x = words_are x2 x4 y4 z4 (e2 ∙ has.0) (e4 ∙ has.2.0) f4 g4 in
        at_within (ap (λ x2. core msp psp q u ram v0 (suc n) x2 x3 z4 a5 2 a7) (e2 ∙ has.0) ∙ ap (λ x3. core msp psp q u ram v0 (suc n) x.at x3 z4 a5 2 a7) (e3 ∙ has.2.2.0) ∙ ap (λ z4. core msp psp q u ram v0 (suc n) x.at x.from z4 a5 2 a7) n4)
        (words_within x ram v0 (suc n) a5 a7 2 h few (λ w2 w3 w6.
        const_within (alu_within (λ x0 f0.
        end_within (
          _,
          refl,
          record {
            left = left;
            last = behind_first xs left x total n l;
            ranges = hs;
            small = ws;
            offset = o + 4 + 4 + 4;
            has = has.2.2.2;
            aligned = later (o + 4 + 4) (later (o + 4) (later o al));
            v0 = x0;
            v2 = w2;
            v3 = w3;
            v4 = 0;
            v6 = 12;
            ram = with_words i x ram;
            at = next_at x0 f0 has.2.2.1;
            final_is = fin;
            is = ap (λ z. core msp psp q u (with_words i x ram) x0 z w2 w3 0 a5 12 a7) (one_less l.few);
          },
        )))))))))))) (omega arith)
      where
        place : (k a : ℕ) → a ≡ i.flash_base + (o + 4 * k) → v0 + 4 * k ≡ a
        place k a e = omega (arith, e, at)

        none : (o : ℕ) → i.flash_base + o ≡ i.flash_base + (o + 4 * 0)
        none o = omega arith

        two : (o : ℕ) → i.flash_base + (o + 4 + 4) ≡ i.flash_base + (o + 4 * 2)
        two o = omega arith

        flash_al : (o : ℕ) → o % 4 ≡ 0 → (i.flash_base + o) % 4 ≡ 0
        flash_al o a = let f = rules.flash_aligned in omega (arith, a, f)

        later : (o : ℕ) → o % 4 ≡ 0 → (o + 4) % 4 ≡ 0
        later o a = omega (arith, a)

        inside : (o : ℕ) → o + 4 ≤ length i.flash → o < length i.flash
        inside o a = omega (arith, a)

        between : (x2 x4 y n : ℕ) → y ≡ subtract x4 x2 → x2 ≡ x.at → x4 ≡ x.end → x.end ≡ x.at + 4 * n → x.end ≤ i.ram_base + i.ram_size → y ≡ 4 * n
        between x2 x4 y n e a b w r = let m = rules.ram_highest in let z = rules.ram_most in omega (arith, e, a, b, w, r, m, z)

        words_are : (x2 x4 y z : ℕ) → x2 ≡ x.at → x4 ≡ x.end → y ≡ subtract x4 x2 → z ≡ shift_right y 2 → z ≡ words_in x
        words_are x2 x4 y z a b e f = quarter y z (words_in x) f (between x2 x4 y (words_in x) e a b h.whole h.ram_room)

        next_at : (x0 : ℕ) → x0 ≡ add v0 12 → o + 4 + 4 + 4 ≤ length i.flash → x0 ≡ i.flash_base + (o + 4 + 4 + 4)
        next_at x0 e a = let r = rules.flash_highest in let m = rules.flash_most in omega (arith, e, a, at, r, m)

        one_less : suc n ≤ total → subtract (suc n) 1 ≡ n
        one_less a = omega (arith, a, small)

    fill_turn : (final : List ℕ) (xs : List InitRecord) (a5 a7 total n : ℕ) (c : Core) → total < 2 ^ 20 → Filling final xs a5 a7 total (suc n) c → R (22 + 16 * words_in (get_or xs (total - suc n) no_init)) (init_turn t) [] c (Fills final xs a5 a7 total n)
    fill_turn final xs a5 a7 total n c small p = at_within p.is (go p.left p.last p.ranges p.small p.has p.final_is)
      where
        go : (left : List InitRecord) → AreLast xs left total (suc n) → Each (IsCopied i Allowed) left → Each (λ x. words_in x ≤ t.words) left → Has i p.offset (flat_map init_words left) → with_all_words i left p.ram ≡ final →
            R (22 + 16 * words_in (get_or xs (total - suc n) no_init)) (init_turn t) [] (core msp psp q u p.ram p.v0 (suc n) p.v2 p.v3 p.v4 a5 p.v6 a7) (Fills final xs a5 a7 total n)
        go [] l hs ws has fin = absurd (let c = l.count in omega (arith, c))
        go (x ∷ left) l hs ws has fin =
            subst (λ y. R (22 + 16 * words_in y) (init_turn t) [] (core msp psp q u p.ram p.v0 (suc n) p.v2 p.v3 p.v4 a5 p.v6 a7) (Fills final xs a5 a7 total n)) (first_is xs left x total n l)
            (fill_one final xs a5 a7 total n x left p.offset p.v0 p.v2 p.v3 p.v4 p.v6 p.ram small l hs.0 ws.0 hs.1 ws.1 has p.aligned p.at fin)

    -- the whole copying
    pub fill_within : (xs : List InitRecord) (ram : List ℕ) (a5 a7 o : ℕ) {b : ℕ} {k : PrivilegedSteps} {ks : List PrivilegedSteps} {Q : Outcome → Type 0} (a2 a3 a4 a6 : ℕ) → Each (IsCopied i Allowed) xs → Each (λ x. words_in x ≤ t.words) xs → Has i o (flat_map init_words xs) → o % 4 ≡ 0 → length xs < 2 ^ 20 → length xs ≤ t.inits →
        ((v0 v2 v3 v4 v6 : ℕ) → R b k ks (core msp psp q u (with_all_words i xs ram) v0 0 v2 v3 v4 a5 v6 a7) Q) →
        R (last_steps xs (length xs) (length xs) + b) (Repeat 1 t.inits (init_turn t) k) ks (core msp psp q u ram (i.flash_base + o) (length xs) a2 a3 a4 a5 a6 a7) Q
    fill_within xs ram a5 a7 o {b} {k} {ks} {Q} a2 a3 a4 a6 hs ws has al small few w =
        let final : List ℕ = with_all_words i xs ram in
        let total : ℕ = length xs in
        loop_within (Filling final xs a5 a7 total) (λ n. 22 + 16 * words_in (get_or xs (total - suc n) no_init)) (λ n. last_steps xs total n) total (omega arith) (λ n. step total n) (λ n c p. ap (λ c. low_register c 1) p.is) (λ n c p. fill_turn final xs a5 a7 total n c small p) few
        (record { left = xs; last = all_are_last xs; ranges = hs; small = ws; offset = o; has = has; aligned = al; v0 = i.flash_base + o; v2 = a2; v3 = a3; v4 = a4; v6 = a6; ram = ram; at = refl; final_is = refl; is = refl })
        (λ d p. at_within (p.is ∙ ap (λ m. core msp psp q u m p.v0 0 p.v2 p.v3 p.v4 a5 p.v6 a7) (done final p.left p.last.count p.ram p.final_is)) (w p.v0 p.v2 p.v3 p.v4 p.v6))
      where
        counted : (w l : ℕ) → 22 + 16 * w + 4 + l ≤ 26 + 16 * w + l
        counted w l = omega arith

        step : (total n : ℕ) → 22 + 16 * words_in (get_or xs (total - suc n) no_init) + 4 + last_steps xs total n ≤ last_steps xs total (suc n)
        step total n = counted (words_in (get_or xs (total - suc n) no_init)) (last_steps xs total n)

        done : (final : List ℕ) (left : List InitRecord) → length left ≡ 0 → (m : List ℕ) → with_all_words i left m ≡ final → m ≡ final
        done final [] z m e = e
        done final (x ∷ left) z m e = absurd (omega (arith, z))

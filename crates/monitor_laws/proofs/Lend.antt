-- The list of lend: the tests of the loan that a thread asks for, and RAM with one loan more.
use Rattle.std.proofs.Common.{◌≡◌, ◌≢◌, ℕ, ◌+◌, ◌-◌, ◌*◌, ◌%◌, ◌^◌, ◌<◌, ◌≤◌, true, List, [], length, refl, sym, ap, ◌∙◌, arith}
use Rattle.std.proofs.lemmas.Nat.{and_comm, and_mask}
use Rattle.std.specs.Prelude.{bit_and}
use Rattle.std.proofs.lemmas.Bool.{ltb-true, eqb-true, leb-true, ltb-false}
use Rattle.base_words.specs.Arithmetic.{add, subtract}
use Rattle.base_words.specs.Bytes.{read, write}
use Rattle.base_words.specs.declared.memory.Width.TheVariants.{Word}
use Rattle.machine_protection.specs.declared.region.Access.TheVariants.{Write}
use Rattle.machine_protection.specs.declared.TheConstants.{MPU_CTRL}
use Rattle.machine_model.specs.declared.state.ProtectionState.{ProtectionState}
use Rattle.machine_model.specs.declared.state.FaultStatus.{FaultStatus}
use Rattle.machine_model.specs.State.{by_mpu}
use Rattle.monitor_steps.specs.Steps.{PrivilegedSteps}
use Rattle.monitor_steps.specs.Core.{Core}
use Rattle.monitor_steps.specs.Effect.{Outcome, Halted, AtReturn}
use Rattle.monitor_steps.proofs.Gives.{word_fits}
use Rattle.monitor_steps.proofs.Within.{GivesWithin, const_within, alu_within, at_within, more_within, yes_within, no_within, next_within, must_within, must_not_within, load_within, load_flash_within, store_within}
use Rattle.monitor_model.specs.declared.tables.Tables.{Tables}
use Rattle.monitor_model.specs.Records.{stack_end, lend_size}
use Rattle.monitor_program.specs.Constants.{Constants, constants_with}
use Rattle.monitor_program.specs.Opening.{closed_up}
use Rattle.monitor_program.specs.Svc.{lend_entry, lend}
use Rattle.monitor_laws.proofs.Off.{core, with_unit, IsOff, open_while_off}
use Rattle.monitor_laws.proofs.FlashWords.{has_word}
use Rattle.monitor_laws.proofs.Placement.{writable, has_lends, lends_offset, lends_is, few_lends, lends_at_is, lends_aligned, loans_at_is}
use Rattle.monitor_laws.proofs.Opened.{FrameIsOpen, le_false, eq_false, block_load_within, block_store_within, HandlerPremises}
use Rattle.monitor_laws.proofs.Unlend.{closed_within}
use Rattle.monitor_laws.proofs.SvcNumber.{by_number}

-- the two low bits
low_bits : (n : ℕ) → bit_and 3 n ≡ n % 4
low_bits n = and_comm 3 n ∙ and_mask n 2

-- a local that may be lent, by its address and its number, of a frame at psp below this TOP, while so many loans live
pub record MayLend (t : Tables) (psp top live address number : ℕ) : Type 0 where
  pub room : live < 32
  pub number_in : number < length t.lends
  pub aligned : address % 4 ≡ 0
  pub low : psp + 32 ≤ address
  pub high : address + lend_size t number ≤ top

-- RAM with one loan more than so many, of a block at an offset
abbrev pub with_loan : (block live address end number : ℕ) → List ℕ → List ℕ
with_loan b n a e x m = write 4 (b + 12) (n + 1) (write 4 (b + (160 + 12 * n + 8)) x (write 4 (b + (160 + 12 * n + 4)) e (write 4 (b + (160 + 12 * n)) a m)))

four : (n a b : ℕ) → a ≡ add n n → b ≡ add a a → n < 2 ^ 28 → b ≡ 4 * n
four n a b x y h = omega (arith, x, y, h)

twelve : (n a b c d : ℕ) → a ≡ add n n → b ≡ add a n → c ≡ add b b → d ≡ add c c → n < 32 → d ≡ 12 * n
twelve n a b c d x y z w h = omega (arith, x, y, z, w, h)

module _ (premises : HandlerPremises) where
  open premises use {installed, installed.{image as i, tables as t, placed as p, stub}, Good, Allowed, entry_top, handles, good}

  abbrev k : Constants
  k = constants_with stub t

  abbrev W : ℕ → PrivilegedSteps → List PrivilegedSteps → Core → (Outcome → Type 0) → Type 0
  W n s ks c Q = GivesWithin by_mpu i Good Allowed n s ks c Q

  abbrev block : ℕ
  block = t.monitor - i.ram_base

  module _ {msp psp : ℕ} {u : FaultStatus} where
    -- the list behind its tests: address, number and LOANS in r4 to r6, the size in r2. The loan is written, and LOANS counts it
    entry_within : {ks : List PrivilegedSteps} {Q : Outcome → Type 0} {q : ProtectionState} {m : List ℕ} (live address number size : ℕ) {a0 a3 a7 : ℕ} → IsOff true q → Good (with_unit q (record q.mpu { control = 5 })) → live < 32 → address + size < 2 ^ 32 →
        ((q1 : ProtectionState) (new : List ℕ) → q1 ≡ with_unit q (record q.mpu { control = 5 }) → new ≡ with_loan block live address (address + size) number m → length new ≡ length m →
        Q (AtReturn (core msp psp q1 u new a0 k.block (address + size) 1 address number MPU_CTRL 5))) →
        W 43 (lend_entry k closed_up) ks (core msp psp q u m a0 k.block size a3 address number live a7) Q
    entry_within {ks} {Q} {q} {m} live address number size {a0} off on few fits go =
        more_within
        (alu_within (λ b1 f1. alu_within (λ b2 f2. alu_within (λ b3 f3. alu_within (λ b4 f4. const_within (alu_within (λ b f.
        let at : b ≡ i.ram_base + (block + (160 + 12 * live)) = loan_at b b4 (twelve live b1 b2 b3 b4 f1 f2 f3 f4 few) f in
        store_within p.rules (block + (160 + 12 * live)) (open_while_off q off.control) (good q off) (at_0 b at) aligned_0 room_0 (handles.block Write _ (160 + 12 * live) off.mode (in_0 few)) (λ m1 g1 h1.
        alu_within (λ e f5.
        let ends : e ≡ address + size = end_is e f5 in
        store_within p.rules (block + (160 + 12 * live + 4)) (open_while_off q off.control) (good q off) (at_4 b at) aligned_4 room_4 (handles.block Write _ (160 + 12 * live + 4) off.mode (in_4 few)) (λ m2 g2 h2.
        store_within p.rules (block + (160 + 12 * live + 8)) (open_while_off q off.control) (good q off) (at_8 b at) aligned_8 room_8 (handles.block Write _ (160 + 12 * live + 8) off.mode (in_8 few)) (λ m3 g3 h3.
        const_within (alu_within (λ c f6.
        let more : c ≡ live + 1 = one_more c f6 in
        block_store_within premises 3 off refl refl (λ m4 g4 h4.
        at_within (ap (λ e. core msp psp q u m4 a0 k.block e 1 address number c b) ends)
        (closed_within premises off on (λ q1 e1.
        go q1 m4 e1 (all_of m1 m2 m3 m4 e c g1 g2 g3 g4 ends more) (h4 ∙ h3 ∙ h2 ∙ h1))))))))))))))))) (omega arith)
      where
        loan_at : (b c : ℕ) → c ≡ 12 * live → b ≡ add c k.loans_at → b ≡ i.ram_base + (block + (160 + 12 * live))
        loan_at b c e h = let a = loans_at_is installed in let l = p.block_inside.0 in let z = p.block_inside.1 in let r = p.rules.ram_highest in let s = p.rules.ram_most in omega (arith, a, e, h, l, z, r, s, few)

        at_0 : (b : ℕ) → b ≡ i.ram_base + (block + (160 + 12 * live)) → b + 4 * 0 ≡ i.ram_base + (block + (160 + 12 * live))
        at_0 b e = omega (arith, e)

        at_4 : (b : ℕ) → b ≡ i.ram_base + (block + (160 + 12 * live)) → b + 4 * 1 ≡ i.ram_base + (block + (160 + 12 * live + 4))
        at_4 b e = omega (arith, e)

        at_8 : (b : ℕ) → b ≡ i.ram_base + (block + (160 + 12 * live)) → b + 4 * 2 ≡ i.ram_base + (block + (160 + 12 * live + 8))
        at_8 b e = omega (arith, e)

        block_aligned : block % 4 ≡ 0
        block_aligned = let a = p.block_aligned in let r = p.rules.ram_aligned in let l = p.block_inside.0 in omega (arith, a, r, l)

        aligned_0 : (block + (160 + 12 * live)) % 4 ≡ 0
        aligned_0 = let a = block_aligned in omega (arith, a)

        aligned_4 : (block + (160 + 12 * live + 4)) % 4 ≡ 0
        aligned_4 = let a = block_aligned in omega (arith, a)

        aligned_8 : (block + (160 + 12 * live + 8)) % 4 ≡ 0
        aligned_8 = let a = block_aligned in omega (arith, a)

        room_0 : block + (160 + 12 * live) + 4 ≤ i.ram_size
        room_0 = let l = p.block_inside.0 in let z = p.block_inside.1 in omega (arith, l, z, few)

        room_4 : block + (160 + 12 * live + 4) + 4 ≤ i.ram_size
        room_4 = let l = p.block_inside.0 in let z = p.block_inside.1 in omega (arith, l, z, few)

        room_8 : block + (160 + 12 * live + 8) + 4 ≤ i.ram_size
        room_8 = let l = p.block_inside.0 in let z = p.block_inside.1 in omega (arith, l, z, few)

        in_0 : live < 32 → 160 + 12 * live + 4 ≤ 544
        in_0 h = omega (arith, h)

        in_4 : live < 32 → 160 + 12 * live + 4 + 4 ≤ 544
        in_4 h = omega (arith, h)

        in_8 : live < 32 → 160 + 12 * live + 8 + 4 ≤ 544
        in_8 h = omega (arith, h)

        end_is : (e : ℕ) → e ≡ add address size → e ≡ address + size
        end_is e h = omega (arith, h, fits)

        one_more : (c : ℕ) → c ≡ add live 1 → c ≡ live + 1
        one_more c h = omega (arith, h, few)

        all_of : (m1 m2 m3 m4 : List ℕ) (e c : ℕ) → m1 ≡ write 4 (block + (160 + 12 * live)) address m → m2 ≡ write 4 (block + (160 + 12 * live + 4)) e m1 → m3 ≡ write 4 (block + (160 + 12 * live + 8)) number m2 → m4 ≡ write 4 (block + 12) c m3 → e ≡ address + size → c ≡ live + 1 →
            m4 ≡ with_loan block live address (address + size) number m
        all_of m1 m2 m3 m4 e c g1 g2 g3 g4 ee ce =
            g4 ∙ ap (λ c. write 4 (block + 12) c m3) ce
            ∙ ap (λ m. write 4 (block + 12) (live + 1) m) (g3
            ∙ ap (λ m. write 4 (block + (160 + 12 * live + 8)) number m) (g2
            ∙ ap (λ e. write 4 (block + (160 + 12 * live + 4)) e m1) ee
            ∙ ap (λ m. write 4 (block + (160 + 12 * live + 4)) (address + size) m) g1))

    -- the loan that is asked for, where it may be made; else halt 6
    pub lend_within : {ks : List PrivilegedSteps} {Q : Outcome → Type 0} {q : ProtectionState} (o top live address number : ℕ) {m : List ℕ} {a2 a4 a5 a6 a7 : ℕ} → IsOff true q → Good (with_unit q (record q.mpu { control = 5 })) → psp ≡ i.ram_base + o → o % 4 ≡ 0 → FrameIsOpen i t o m → top ≡ read 4 (block + 4) m → top ≤ stack_end t → top ≤ entry_top →
        read 4 o m ≡ address → read 4 (o + 4) m ≡ number → read 4 (block + 12) m ≡ live → live ≤ 32 →
        ((d : Core) → d.ram ≡ m → (MayLend t psp top live address number → ⊥) → Q (Halted 6 d)) →
        ((q1 : ProtectionState) (new : List ℕ) → q1 ≡ with_unit q (record q.mpu { control = 5 }) → MayLend t psp top live address number → new ≡ with_loan block live address (address + lend_size t number) number m → length new ≡ length m →
        Q (AtReturn (core msp psp q1 u new psp k.block (address + lend_size t number) 1 address number MPU_CTRL 5))) →
        W 113 (lend k) ks (core msp psp q u m psp k.block a2 top a4 a5 a6 a7) Q
    lend_within {ks} {Q} {q} o top live address number {m} {a2} {a7} off on ep ao f et en below ea eb el few refuse go =
        more_within
        (load_within p.rules o (open_while_off q off.control) (frame_0 ep) ao room_0 (handles.stack_load _ o f.low high_0 below_0) (λ x4 e4.
        load_within p.rules (o + 4) (open_while_off q off.control) (frame_4 ep) aligned_4 room_4 (handles.stack_load _ (o + 4) low_4 high_4 below_4) (λ x5 e5.
        block_load_within premises 3 off refl refl (λ x6 e6.
        at_within (ap (λ x. core msp psp q u m psp k.block a2 top x x5 x6 a7) (e4 ∙ ea) ∙ ap (λ x. core msp psp q u m psp k.block a2 top address x x6 a7) (e5 ∙ eb) ∙ ap (λ x. core msp psp q u m psp k.block a2 top address number x a7) (e6 ∙ el))
        (const_within
        (must_not_within (λ c1. refuse _ refl (λ y. full (eqb-true _ _ c1) y.room)) (λ c1.
        let room : live < 32 = not_full (eq_false _ _ c1) in
        const_within
        (must_within (λ c2. refuse _ refl (λ y. outside (ltb-false _ _ c2) y.number_in)) (λ c2.
        let inside : number < length t.lends = is_inside (ltb-true _ _ c2) in
        const_within (alu_within (λ v ev. const_within
        (must_within (λ c3. refuse _ refl (λ y. absurd (eq_false _ _ c3 (ev ∙ low_bits address ∙ y.aligned)))) (λ c3.
        let aligned : address % 4 ≡ 0 = sym (low_bits address) ∙ sym ev ∙ eqb-true _ _ c3 in
        alu_within (λ d ds. alu_within (λ s es. const_within (alu_within (λ l l_is.
        load_flash_within p.rules (lends_offset installed + 4 * number) {z = Word} (open_while_off q off.control) (record_at d s l inside ds es l_is) record_aligned (record_in inside) (handles.plain.flash _ 4 (lends_offset installed + 4 * number) (record_fits inside)) (λ z ez.
        at_within (ap (λ z. core msp psp q u m psp k.block z top address number live k.lends_at) (ez ∙ (has_word i (lends_offset installed) t.lends number (has_lends installed) inside).0))
        (const_within (alu_within (λ g eg.
        must_within (λ c4. refuse _ refl (λ y. not_low g eg (le_false _ _ c4) y.low)) (λ c4.
        let low : psp + 32 ≤ address = is_low g eg (leb-true _ _ c4) in
        must_within (λ c5. refuse _ refl (λ y. not_below (le_false _ _ c5) y.high)) (λ c5.
        alu_within (λ r er.
        must_within (λ c6. refuse _ refl (λ y. not_high r er (leb-true _ _ c5) (le_false _ _ c6) y.high)) (λ c6.
        let high : address + lend_size t number ≤ top = is_high r er (leb-true _ _ c5) (leb-true _ _ c6) in
        entry_within live address number (lend_size t number) off on room (fits high) (λ q1 new e1 n1 h1.
        go q1 new e1 (record { room = room; number_in = inside; aligned = aligned; low = low; high = high }) n1 h1)))))))))))))))))))))))))) (omega arith)
      where
        stack_high : i.ram_base + o + 32 ≤ i.ram_base + i.ram_size
        stack_high = let a = (writable installed).stack_inside.1 in let h = f.high in omega (arith, a, h, et, en)

        frame_0 : psp ≡ i.ram_base + o → psp + 4 * 0 ≡ i.ram_base + o
        frame_0 e = omega (arith, e)

        frame_4 : psp ≡ i.ram_base + o → psp + 4 * 1 ≡ i.ram_base + (o + 4)
        frame_4 e = omega (arith, e)

        room_0 : o + 4 ≤ i.ram_size
        room_0 = let h = stack_high in omega (arith, h)

        room_4 : o + 4 + 4 ≤ i.ram_size
        room_4 = let h = stack_high in omega (arith, h)

        high_0 : i.ram_base + (o + 4) ≤ read 4 (block + 4) m
        high_0 = let h = f.high in omega (arith, h)

        high_4 : i.ram_base + (o + 4 + 4) ≤ read 4 (block + 4) m
        high_4 = let h = f.high in omega (arith, h)

        below_0 : i.ram_base + (o + 4) ≤ entry_top
        below_0 = let h = f.high in omega (arith, h, et, below)

        below_4 : i.ram_base + (o + 4 + 4) ≤ entry_top
        below_4 = let h = f.high in omega (arith, h, et, below)

        low_4 : t.stack.base ≤ i.ram_base + (o + 4)
        low_4 = let h = f.low in omega (arith, h)

        aligned_4 : (o + 4) % 4 ≡ 0
        aligned_4 = omega (arith, ao)

        full : live ≡ 32 → live < 32 → ⊥
        full a b = omega (arith, a, b)

        not_full : live ≢ 32 → live < 32
        not_full h = grind (arith, h, few)

        outside : k.lends ≤ number → number < length t.lends → ⊥
        outside a b = let e = lends_is installed in omega (arith, a, b, e)

        is_inside : number < k.lends → number < length t.lends
        is_inside a = let e = lends_is installed in omega (arith, a, e)

        record_fits : number < length t.lends → lends_offset installed + 4 * number + 4 ≤ length i.flash
        record_fits h = (has_word i (lends_offset installed) t.lends number (has_lends installed) h).1

        record_in : number < length t.lends → lends_offset installed + 4 * number < length i.flash
        record_in h = let a = record_fits h in omega (arith, a)

        record_aligned : (i.flash_base + (lends_offset installed + 4 * number)) % 4 ≡ 0
        record_aligned = let a = lends_aligned installed in let b = p.rules.flash_aligned in omega (arith, a, b)

        small : number < length t.lends → number < 2 ^ 28
        small h = let e = few_lends installed in omega (arith, h, e)

        record_at : (d s l : ℕ) → number < length t.lends → d ≡ add number number → s ≡ add d d → l ≡ add s k.lends_at → l + 4 * 0 ≡ i.flash_base + (lends_offset installed + 4 * number)
        record_at d s l h ds es e =
            let a = four number d s ds es (small h) in
            let b = lends_at_is installed in
            let r = record_fits h in
            let x = p.rules.flash_highest in
            let y = p.rules.flash_most in
            omega (arith, a, b, e, r, x, y)

        frame_end : (g : ℕ) → g ≡ add psp 32 → g ≡ psp + 32
        frame_end g e = let h = f.high in let w = word_fits (block + 4) m in let s = stack_high in let x = p.rules.ram_highest in let y = p.rules.ram_most in omega (arith, e, h, w, ep, s, x, y)

        not_low : (g : ℕ) → g ≡ add psp 32 → address < g → psp + 32 ≤ address → ⊥
        not_low g e a b = let h = frame_end g e in omega (arith, h, a, b)

        is_low : (g : ℕ) → g ≡ add psp 32 → g ≤ address → psp + 32 ≤ address
        is_low g e a = let h = frame_end g e in omega (arith, h, a)

        not_below : top < address → address + lend_size t number ≤ top → ⊥
        not_below a b = omega (arith, a, b)

        left_over : (r : ℕ) → r ≡ subtract top address → address ≤ top → r ≡ top - address
        left_over r e a = let w = word_fits (block + 4) m in omega (arith, e, a, w, et)

        not_high : (r : ℕ) → r ≡ subtract top address → address ≤ top → r < lend_size t number → address + lend_size t number ≤ top → ⊥
        not_high r e a b c = let h = left_over r e a in omega (arith, h, a, b, c)

        is_high : (r : ℕ) → r ≡ subtract top address → address ≤ top → lend_size t number ≤ r → address + lend_size t number ≤ top
        is_high r e a b = let h = left_over r e a in omega (arith, h, a, b)

        fits : address + lend_size t number ≤ top → address + lend_size t number < 2 ^ 32
        fits h = let w = word_fits (block + 4) m in omega (arith, h, w, et)

    -- 2: lend
    pub two_within : {Q : Outcome → Type 0} {q : ProtectionState} (o top live address number : ℕ) {m : List ℕ} {a2 a4 a6 a7 : ℕ} → IsOff true q → Good (with_unit q (record q.mpu { control = 5 })) → psp ≡ i.ram_base + o → o % 4 ≡ 0 → FrameIsOpen i t o m → top ≡ read 4 (block + 4) m → top ≤ stack_end t → top ≤ entry_top →
        read 4 o m ≡ address → read 4 (o + 4) m ≡ number → read 4 (block + 12) m ≡ live → live ≤ 32 →
        ((d : Core) → d.ram ≡ m → (MayLend t psp top live address number → ⊥) → Q (Halted 6 d)) →
        ((q1 : ProtectionState) (new : List ℕ) → q1 ≡ with_unit q (record q.mpu { control = 5 }) → MayLend t psp top live address number → new ≡ with_loan block live address (address + lend_size t number) number m → length new ≡ length m →
        Q (AtReturn (core msp psp q1 u new psp k.block (address + lend_size t number) 1 address number MPU_CTRL 5))) →
        W 125 (by_number premises) [] (core msp psp q u m psp k.block a2 top a4 2 a6 a7) Q
    two_within o top live address number off on ep ao f et en below ea eb el few refuse go =
        more_within
        (const_within (no_within refl (next_within (const_within (yes_within refl
        (lend_within o top live address number off on ep ao f et en below ea eb el few refuse go)))))) (omega arith)

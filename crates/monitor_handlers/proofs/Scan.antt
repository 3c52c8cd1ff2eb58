-- The loop over the loans, and the whole scan with its halt: r4 the address, r5 the mask, r6 the width, r7 whether a loan holds it.
use Rattle.std.proofs.Common.{◌≡◌, ℕ, suc, ◌+◌, ◌-◌, ◌*◌, ◌%◌, ◌^◌, ◌<◌, ◌≤◌, Bool, true, false, List, [], ◌∷◌, ◌++◌, length, nat_eq, nat_le, refl, sym, ap, ◌∙◌, arith}
use Rattle.std.proofs.lemmas.Bool.{false≢true}
use Rattle.std.specs.Prelude.{bit_and, flat_map}
use Rattle.base_words.specs.Arithmetic.{subtract, shift_right, add}
use Rattle.base_words.specs.Bytes.{read}
use Rattle.base_words.specs.declared.memory.Width.TheVariants.{Word}
use Rattle.machine_protection.specs.declared.region.Access.TheVariants.{Read}
use Rattle.machine_model.specs.declared.state.ProtectionState.{ProtectionState}
use Rattle.machine_model.specs.declared.state.FaultStatus.{FaultStatus}
use Rattle.machine_model.specs.State.{State, by_mpu}
use Rattle.monitor_steps.specs.declared.steps.PrivilegedOp.TheVariants.{Add}
use Rattle.monitor_steps.specs.Steps.{PrivilegedSteps, End, Const, Load, Alu, Repeat, ◌▸◌}
use Rattle.monitor_steps.specs.Core.{Core, low_register, with_low}
use Rattle.monitor_steps.specs.Effect.{Outcome, Went, Halted, with_one_less}
use Rattle.monitor_steps.proofs.Within.{GivesWithin, const_within, copy_within, alu_within, at_within, more_within, end_within, next_within, must_within, psp_within, load_within, load_flash_within, loop_within}
use Rattle.monitor_model.specs.Records.{compartment_at, number_of_slots, nobody}
use Rattle.monitor_model.specs.Area.{region_words, compartment_words}
use Rattle.monitor_model.specs.Placed.{IsCompartment}
use Rattle.monitor_model.specs.BlockWords.{loan_address, loan_end, loan_number, top as top_of}
use Rattle.monitor_model.specs.Values.{loan_size}
use Rattle.monitor_program.specs.Constants.{Constants, constants_with}
use Rattle.monitor_program.specs.MemFault.{loan_turn, scan}
use Rattle.monitor_laws.proofs.FlashWords.{Has, has_back, has_record}
use Rattle.monitor_laws.proofs.Tables.{slot_words, record_at, slots_are, behind_head, counts, has_compartment}
use Rattle.monitor_laws.proofs.Placement.{writable, loans_at_is, Installed}
use Rattle.monitor_laws.proofs.Written.{record_of_within}
use Rattle.monitor_laws.proofs.Off.{core, IsOff, open_while_off}
use Rattle.monitor_laws.proofs.Opened.{on_msp, block_load_within, HandlerPremises}
use Rattle.monitor_laws.proofs.HandlerRule.{HandlerRule, thread_premises}
use Rattle.monitor_laws.proofs.HandlerWords.{InStack, frame_load_within}
use Rattle.monitor_handlers.proofs.Wide.{test_within}
use Rattle.monitor_handlers.proofs.Lent.{one_or, by_words, hits}
use Rattle.base_laws.proofs.Lists.{each_at}

-- what the number 1 or 0 says
chosen : (b : Bool) → nat_eq (one_or b 0) 1 ≡ true → b ≡ true
chosen true e = refl
chosen false e = absurd (false≢true e)

not_chosen : (b : Bool) → nat_eq (one_or b 0) 1 ≡ false → b ≡ false
not_chosen true e = absurd (false≢true (sym e))
not_chosen false e = refl

module _ (installed : Installed) where
  open installed use {image as i, tables as t, placed as p, stub}

  -- ---- both masks of a compartment, in flash

  pub record HasMasks (cur : ℕ) : Type 0 where
    pub mask : read 4 (record_at i t (writable installed) stub cur + 4 * (2 * number_of_slots t + 2)) i.flash ≡ (compartment_at t cur).mask
    pub reads : read 4 (record_at i t (writable installed) stub cur + 4 * (2 * number_of_slots t + 3)) i.flash ≡ (compartment_at t cur).reads
    pub room : record_at i t (writable installed) stub cur + 4 * (2 * number_of_slots t + 3) + 4 ≤ length i.flash

  pub has_masks : (cur : ℕ) → cur < length t.comps → HasMasks cur
  has_masks cur lt =
      let w = writable installed in
      let c = compartment_at t cur in
      let o : ℕ = record_at i t w stub cur in
      let all : Has i o (compartment_words c) = has_record i compartment_words (2 * number_of_slots t + 4) t.comps nobody (4096 + 32) (counts i t w stub) (behind_head i t w stub) cur lt in
      let behind = has_back i o (region_words c.code) (flat_map region_words c.slots ++ c.mask ∷ c.reads ∷ []) all in
      let both = has_back i (o + 4 * 2) (flat_map region_words c.slots) (c.mask ∷ c.reads ∷ []) behind in
      let n : IsCompartment i t c = each_at (IsCompartment i t) t.comps nobody cur p.comps lt in
      let l = slot_words c.slots in
      let s = n.count in
      let at : o + 4 * 2 + 4 * length (flat_map region_words c.slots) ≡ o + 4 * (2 * number_of_slots t + 2) = omega (arith, l, s) in
      let next : o + 4 * 2 + 4 * length (flat_map region_words c.slots) + 4 ≡ o + 4 * (2 * number_of_slots t + 3) = omega (arith, l, s) in
      let room = both.2.1 in
      record {
        mask = ap (λ n. read 4 n i.flash) (sym at) ∙ both.0;
        reads = ap (λ n. read 4 n i.flash) (sym next) ∙ both.2.0;
        room = omega (arith, next, room);
      }

  module _ (thread : State) (Good : ProtectionState → Type 0) (good : (q : ProtectionState) → IsOff true q → Good q) where
    abbrev k : Constants
    k = constants_with stub t

    abbrev pub W : ℕ → PrivilegedSteps → List PrivilegedSteps → Core → (Outcome → Type 0) → Type 0
    W n s ks c Q = GivesWithin by_mpu i Good (HandlerRule i t thread) n s ks c Q

    abbrev block : ℕ
    block = t.monitor - i.ram_base

    abbrev premises : HandlerPremises
    premises = thread_premises installed thread Good good

    open premises use {handles}

    -- a word of the loan numbered d
    loan_load_within : (d off x : ℕ) {n to b : ℕ} {s : PrivilegedSteps} {ks : List PrivilegedSteps} {c : Core} {Q : Outcome → Type 0} → IsOff true c.protection → low_register c b ≡ t.monitor + (160 + 12 * d) → d < 32 → off < 3 → x ≡ 160 + 12 * d + 4 * off →
        ((v : ℕ) → v ≡ read 4 (block + x) c.ram → W n s ks (with_low c to v) Q) → W (1 + n) (Load Word to b off s) ks c Q
    loan_load_within d off x {b = b} {c = c} q e few h is f =
        load_within p.rules (block + x) (open_while_off c.protection q.control) (at (low_register c b) e) aligned room (handles.block Read c x q.mode inside) f
      where
        at : (r : ℕ) → r ≡ t.monitor + (160 + 12 * d) → r + 4 * off ≡ i.ram_base + (block + x)
        at r e = let l = p.block_inside.0 in omega (arith, e, l, is)

        aligned : (block + x) % 4 ≡ 0
        aligned = let a = p.block_aligned in let r = p.rules.ram_aligned in let l = p.block_inside.0 in omega (arith, a, r, l, is)

        room : block + x + 4 ≤ i.ram_size
        room = let l = p.block_inside.0 in let z = p.block_inside.1 in omega (arith, few, h, l, z, is)

        inside : x + 4 ≤ 544
        inside = omega (arith, few, h, is)

    module _ (msp psp : ℕ) (u : FaultStatus) where
      module _ (q : ProtectionState) (m : List ℕ) (a mask w count : ℕ) (off : IsOff true q) (few : count ≤ 32) where
        -- with so many turns left
        pub record Scanning (n : ℕ) (c : Core) : Type 0 where
          pub done : ℕ
          pub all_of : done + n ≡ count
          pub v0 : ℕ
          pub v1 : ℕ
          pub v2 : ℕ
          pub at : v2 ≡ t.monitor + (160 + 12 * done)
          pub is : c ≡ core msp psp q u m v0 v1 v2 n a mask w (hits i t m mask a w done)

        one_off : (n : ℕ) → n < 32 → subtract (suc n) 1 ≡ n
        one_off n h = omega (arith, h)

        abbrev After : ℕ → Outcome → Type 0
        After n o = (d : Core) × (o ≡ Went d) × Scanning n (with_one_less 3 d)

        tail_within : (n v0 v1 v2 v7 d : ℕ) → d + suc n ≡ count → v2 ≡ t.monitor + (160 + 12 * d) → v7 ≡ hits i t m mask a w (suc d) →
            W 6 (Const 0 loan_size ▸ Alu Add 2 2 0 ▸ End) [] (core msp psp q u m v0 v1 v2 (suc n) a mask w v7) (After n)
        tail_within n v0 v1 v2 v7 d al at h =
            const_within (alu_within (λ y ey. end_within (
              _,
              refl,
              record {
                done = suc d;
                all_of = omega (arith, al);
                v0 = 12;
                v1 = v1;
                v2 = y;
                at = further y ey;
                is = ap (λ x. core msp psp q u m 12 v1 y (subtract (suc n) 1) a mask w x) h ∙ ap (λ x. core msp psp q u m 12 v1 y x a mask w (hits i t m mask a w (suc d))) (one_off n less);
              },
            )))
          where
            less : n < 32
            less = omega (arith, al, few)

            further : (y : ℕ) → y ≡ add v2 12 → y ≡ t.monitor + (160 + 12 * suc d)
            further y e = let b = p.block_inside.1 in let r = p.rules.ram_highest in let z = p.rules.ram_most in omega (arith, e, at, al, few, b, r, z)

        turn_within : (n : ℕ) (c : Core) → Scanning (suc n) c → W 42 loan_turn [] c (After n)
        turn_within n c s =
            at_within s.is
            (loan_load_within s.done 0 (160 + 12 * s.done) off s.at less (omega arith) (omega arith) (λ x0 e0. test_within
            (λ y1. loan_load_within s.done 1 (160 + 12 * s.done + 4) off s.at less (omega arith) (omega arith) (λ x1 e1. test_within
            (λ y2. alu_within (λ x2 e2. test_within
            (λ y3. loan_load_within s.done 2 (160 + 12 * s.done + 8) off s.at less (omega arith) (omega arith) (λ x3 e3.
            copy_within (alu_within (λ x4 e4. const_within (alu_within (λ x5 e5. test_within
            (λ y4. const_within (next_within (next_within (next_within (next_within (tail_within n 1 x5 s.v2 1 s.done s.all_of s.at (sym (one_is (says1 x0 e0 true y1) (says2 x1 e1 true y2) (says3 x1 x2 e1 e2 true y3) (says4 x3 x4 x5 e3 e4 e5 true y4)))))))))
            (λ y4. more_within (next_within (next_within (next_within (next_within (tail_within n 1 x5 s.v2 _ s.done s.all_of s.at (sym (four_not (says1 x0 e0 true y1) (says2 x1 e1 true y2) (says3 x1 x2 e1 e2 true y3) (says4 x3 x4 x5 e3 e4 e5 false y4)))))))) (omega arith))))))))
            (λ y3. more_within (next_within (next_within (next_within (tail_within n x2 s.v1 s.v2 _ s.done s.all_of s.at (sym (three_not (says1 x0 e0 true y1) (says2 x1 e1 true y2) (says3 x1 x2 e1 e2 false y3))))))) (omega arith))))
            (λ y2. more_within (next_within (next_within (tail_within n x1 s.v1 s.v2 _ s.done s.all_of s.at (sym (two_not (says1 x0 e0 true y1) (says2 x1 e1 false y2)))))) (omega arith))))
            (λ y1. more_within (next_within (tail_within n x0 s.v1 s.v2 _ s.done s.all_of s.at (sym (one_not (says1 x0 e0 false y1))))) (omega arith))))
          where
            less : s.done < 32
            less = let al = s.all_of in omega (arith, al, few)

            says1 : (x : ℕ) → x ≡ (loan_address i t m s.done) → (b : Bool) → nat_le x a ≡ b → nat_le (loan_address i t m s.done) a ≡ b
            says1 x e b h = ap (λ x. nat_le x a) (sym e) ∙ h

            says2 : (x : ℕ) → x ≡ (loan_end i t m s.done) → (b : Bool) → nat_le a x ≡ b → nat_le a (loan_end i t m s.done) ≡ b
            says2 x e b h = ap (λ x. nat_le a x) (sym e) ∙ h

            says3 : (x y : ℕ) → x ≡ (loan_end i t m s.done) → y ≡ subtract x a → (b : Bool) → nat_le w y ≡ b → nat_le w (subtract (loan_end i t m s.done) a) ≡ b
            says3 x y e k b h = ap (λ x. nat_le w x) (sym (k ∙ ap (λ x. subtract x a) e)) ∙ h

            says4 : (x y z : ℕ) → x ≡ (loan_number i t m s.done) → y ≡ shift_right mask x → z ≡ bit_and y 1 → (b : Bool) → nat_eq z 1 ≡ b → nat_eq (bit_and (shift_right mask (loan_number i t m s.done)) 1) 1 ≡ b
            says4 x y z e k j b h = ap (λ x. nat_eq x 1) (sym (j ∙ ap (λ y. bit_and y 1) (k ∙ ap (λ x. shift_right mask x) e))) ∙ h

            one_not : nat_le (loan_address i t m s.done) a ≡ false → by_words i t m mask a w (loan_address i t m s.done) (loan_end i t m s.done) (loan_number i t m s.done) (hits i t m mask a w s.done) ≡ (hits i t m mask a w s.done)
            one_not h = rw h refl

            two_not : nat_le (loan_address i t m s.done) a ≡ true → nat_le a (loan_end i t m s.done) ≡ false → by_words i t m mask a w (loan_address i t m s.done) (loan_end i t m s.done) (loan_number i t m s.done) (hits i t m mask a w s.done) ≡ (hits i t m mask a w s.done)
            two_not h k = rw (h, k) refl

            three_not : nat_le (loan_address i t m s.done) a ≡ true → nat_le a (loan_end i t m s.done) ≡ true → nat_le w (subtract (loan_end i t m s.done) a) ≡ false → by_words i t m mask a w (loan_address i t m s.done) (loan_end i t m s.done) (loan_number i t m s.done) (hits i t m mask a w s.done) ≡ (hits i t m mask a w s.done)
            three_not h k l = rw (h, k, l) refl

            four_not : nat_le (loan_address i t m s.done) a ≡ true → nat_le a (loan_end i t m s.done) ≡ true → nat_le w (subtract (loan_end i t m s.done) a) ≡ true → nat_eq (bit_and (shift_right mask (loan_number i t m s.done)) 1) 1 ≡ false → by_words i t m mask a w (loan_address i t m s.done) (loan_end i t m s.done) (loan_number i t m s.done) (hits i t m mask a w s.done) ≡ (hits i t m mask a w s.done)
            four_not h k l j = rw (h, k, l, j) refl

            one_is : nat_le (loan_address i t m s.done) a ≡ true → nat_le a (loan_end i t m s.done) ≡ true → nat_le w (subtract (loan_end i t m s.done) a) ≡ true → nat_eq (bit_and (shift_right mask (loan_number i t m s.done)) 1) 1 ≡ true → by_words i t m mask a w (loan_address i t m s.done) (loan_end i t m s.done) (loan_number i t m s.done) (hits i t m mask a w s.done) ≡ 1
            one_is h k l j = rw (h, k, l, j) refl

        -- the whole loop
        loans_within : {b : ℕ} {s : PrivilegedSteps} {ks : List PrivilegedSteps} {Q : Outcome → Type 0} {a0 a1 a2 : ℕ} → a2 ≡ t.monitor + 160 → ((v0 v1 v2 : ℕ) → W b s ks (core msp psp q u m v0 v1 v2 0 a mask w (hits i t m mask a w count)) Q) →
            W (46 * count + 3 + b) (Repeat 3 32 loan_turn s) ks (core msp psp q u m a0 a1 a2 count a mask w 0) Q
        loans_within {b} {s} {ks} {Q} {a0} {a1} {a2} e f =
            loop_within Scanning (λ n. 42) (λ n. 46 * n + 3) count (omega arith) (λ n. omega arith) (λ n c r. ap (λ c. low_register c 3) r.is) (λ n c r. turn_within n c r) few
            (record { done = 0; all_of = none; v0 = a0; v1 = a1; v2 = a2; at = no_more; is = refl })
            (λ d r. at_within (r.is ∙ ap (λ x. core msp psp q u m r.v0 r.v1 r.v2 0 a mask w (hits i t m mask a w x)) (all_done r.done r.all_of)) (f r.v0 r.v1 r.v2))
          where
            none : 0 + count ≡ count
            none = omega arith

            all_done : (n : ℕ) → n + 0 ≡ count → n ≡ count
            all_done n e = omega (arith, e)

            no_more : a2 ≡ t.monitor + (160 + 12 * 0)
            no_more = omega (arith, e)

      -- the scan, by a mask in flash: it halts where no loan holds the access
      pub scan_within : (o top cur field code mask a count : ℕ) (lent : Bool) {b : ℕ} {s : PrivilegedSteps} {ks : List PrivilegedSteps} {Q : Outcome → Type 0} {q : ProtectionState} {m : List ℕ} {a2 a3 a4 a5 : ℕ} (w : ℕ) {a7 : ℕ} → IsOff true q → psp ≡ i.ram_base + o → InStack i t o top → i.ram_base + (o + 32) ≤ top_of i t thread.ram → read 4 (block + 4) m ≡ top →
          read 4 (block + 0) m ≡ cur → cur < length t.comps → read 4 (record_at i t (writable installed) stub cur + 4 * field) i.flash ≡ mask → record_at i t (writable installed) stub cur + 4 * field + 4 ≤ length i.flash →
          read 4 (o + 4) m ≡ a → read 4 (block + 12) m ≡ count → count ≤ 32 → hits i t m mask a w count ≡ one_or lent 0 →
          (lent ≡ false → (d : Core) → d.ram ≡ m → Q (Halted code d)) →
          (lent ≡ true → (v1 v2 v7 : ℕ) → W b s ks (core msp psp q u m psp v1 v2 0 a mask w v7) Q) →
          W (1540 + b) (scan k field code s) ks (core msp psp q u m psp k.block a2 a3 a4 a5 w a7) Q
      scan_within o top cur field code mask a count lent {b} {s} {ks} {Q} {q} {m} {a3} {a4} w {a7} off ep io below et ec inside em room ea en few he refuse go =
          more_within
          (copy_within (block_load_within premises 0 off refl refl (λ x5 e5.
          at_within (ap (λ x. core msp psp q u m psp k.block w a3 a4 x w a7) (e5 ∙ ec))
          (record_of_within i p.rules k Good (HandlerRule i t thread) true handles.plain good cur (record_at i t (writable installed) stub cur) slots_least slots_most small at_record low_flash (λ v6 v7 e6.
          load_flash_within p.rules (record_at i t (writable installed) stub cur + 4 * field) {z = Word} (open_while_off q off.control) (at_field v6 e6) flash_al in_flash (handles.plain.flash _ 4 (record_at i t (writable installed) stub cur + 4 * field) room) (λ y5 f5.
          copy_within (frame_load_within premises o top 1 off io below ep refl et (λ x4 e4.
          block_load_within premises 3 off refl refl (λ x3 e3.
          const_within (const_within
          (at_within (ap (λ x. core msp psp q u m psp k.block k.loans_at x3 x y5 w 0) (e4 ∙ ea) ∙ ap (λ x. core msp psp q u m psp k.block k.loans_at x a y5 w 0) (e3 ∙ en) ∙ ap (λ x. core msp psp q u m psp k.block k.loans_at count a x w 0) (f5 ∙ em))
          (loans_within q m a mask w count off few (loans_at_is installed) (λ y0 y1 y2.
          at_within (ap (λ x. core msp psp q u m y0 y1 y2 0 a mask w x) he)
          (const_within (must_within (λ e. refuse (not_chosen lent e) _ refl) (λ e.
          psp_within (on_msp q off.privileged) (go (chosen lent e) y1 y2 _))))))))))))))))) (omega arith)
        where
          slots_are_few : k.slots ≡ number_of_slots t
          slots_are_few = slots_are i t (writable installed) stub

          slots_least : 4 ≤ k.slots
          slots_least = let e = slots_are_few in let l = (writable installed).least in omega (arith, e, l)

          slots_most : k.slots ≤ 12
          slots_most = let e = slots_are_few in let l = (writable installed).most in omega (arith, e, l)

          small : cur < 2 ^ 16
          small = let l = p.most in omega (arith, inside, l)

          at_record : k.compartments_at + (8 * k.slots + 16) * cur ≡ i.flash_base + record_at i t (writable installed) stub cur
          at_record = (has_compartment i t (writable installed) stub cur inside).at

          low_flash : i.flash_base + record_at i t (writable installed) stub cur < 2 ^ 31
          low_flash = let x = p.rules.flash_highest in let y = p.rules.flash_most in omega (arith, room, x, y)

          at_field : (v : ℕ) → v ≡ i.flash_base + record_at i t (writable installed) stub cur → v + 4 * field ≡ i.flash_base + (record_at i t (writable installed) stub cur + 4 * field)
          at_field v e = omega (arith, e)

          flash_al : (i.flash_base + (record_at i t (writable installed) stub cur + 4 * field)) % 4 ≡ 0
          flash_al = let a = p.rules.flash_aligned in let b = (has_compartment i t (writable installed) stub cur inside).aligned in omega (arith, a, b)

          in_flash : record_at i t (writable installed) stub cur + 4 * field < length i.flash
          in_flash = omega (arith, room)

-- The list of the handler of MemManage, whole: how it ends is what the outcome of a fault says.
use Rattle.std.specs.Prelude.{if◌then◌else◌}
use Rattle.std.proofs.Common.{◌≡◌, ℕ, ◌+◌, ◌-◌, ◌*◌, ◌%◌, ◌^◌, ◌<◌, ◌≤◌, ◌⊎◌, inl, inr, ⊎_elim, Bool, true, false, ◌&&◌, List, [], ◌∷◌, length, nat_eq, nat_le, refl, sym, ap, ◌∙◌, subst, arith}
use Rattle.std.proofs.lemmas.Bool.{and_parts, eqb-true, leb-true, eq-eqb, le-leb}
use Rattle.std.specs.Prelude.{bit_and}
use Rattle.std.specs.Int.{bit_at}
use Rattle.base_words.specs.declared.memory.Width.{Width}
use Rattle.base_words.specs.declared.memory.Width.TheVariants.{Byte, Half, Word}
use Rattle.base_words.specs.Width.{byte_count}
use Rattle.base_words.specs.Bytes.{read, write}
use Rattle.base_words.proofs.Bytes.{read_below, read_above}
use Rattle.machine_protection.specs.declared.region.Access.TheVariants.{Read, Write}
use Rattle.machine_devices.specs.declared.image.Image.{Image}
use Rattle.machine_model.specs.declared.TheConstants.{CFSR}
use Rattle.machine_model.specs.declared.state.ProtectionState.{ProtectionState}
use Rattle.machine_model.specs.declared.state.FaultStatus.{FaultStatus}
use Rattle.machine_model.specs.declared.state.StopReason.TheVariants.{Unaligned}
use Rattle.machine_model.specs.State.{State, by_mpu, is_unprivileged}
use Rattle.monitor_steps.specs.Steps.{PrivilegedSteps, End, Load, Store, ◌▸◌}
use Rattle.monitor_steps.specs.Core.{Core}
use Rattle.monitor_steps.specs.Effect.{Outcome, Halted, AtReturn, Stopped}
use Rattle.monitor_steps.proofs.Gives.{word_fits}
use Rattle.monitor_steps.proofs.Within.{GivesWithin, const_within, alu_within, at_within, more_within, next_within, must_within, halt_within, load_flash_within}
use Rattle.monitor_steps.specs.declared.steps.PrivilegedCond.TheVariants.{Eq}
use Rattle.monitor_model.specs.declared.tables.Tables.{Tables}
use Rattle.monitor_model.specs.Records.{compartment_at, number_of_slots, stack_end, eighth}
use Rattle.monitor_model.specs.Offsets.{record_mask, record_reads, frame_r0, frame_return}
use Rattle.monitor_model.specs.Block.{MonitorBlock}
use Rattle.monitor_model.specs.BlockWords.{IsBlock, current, loan_count, top as top_of}
use Rattle.monitor_model.specs.Reach.{running}
use Rattle.monitor_model.specs.Invariant.{IsOrderly}
use Rattle.monitor_model.specs.Outcomes.{Outcome as Comes, Halts, StopsAtBus, StopsUnaligned, Resumes, stacked, with_stacked, moved_on, is_open}
use Rattle.monitor_model.specs.FaultOutcome.{is_lent, if_aligned, emulated_store, emulated_load, by_half, is_data_fault, fault_outcome}
use Rattle.monitor_model.specs.Halts.{halt_fault}
use Rattle.monitor_program.specs.Constants.{Constants, constants_with}
use Rattle.monitor_program.specs.MemFault.{widths, stored, loaded, lent_load, finished, stores, loads, memfault}
use Rattle.monitor_program.specs.Opening.{must}
use Rattle.monitor_laws.proofs.Tables.{record_at, slots_are}
use Rattle.monitor_laws.proofs.Placement.{writable, Installed}
use Rattle.monitor_laws.proofs.Off.{core, with_unit, IsOff, open_while_off}
use Rattle.monitor_laws.proofs.Opened.{FrameIsOpen, eq_false, opened_within, HandlerPremises}
use Rattle.monitor_laws.proofs.HandlerRule.{HandlerRule, thread_premises}
use Rattle.monitor_laws.proofs.HandlerWords.{InStack, apart_from_block, frame_load_within, frame_store_within}
use Rattle.monitor_handlers.proofs.Frames.{stacked_is}
use Rattle.monitor_handlers.proofs.Lent.{one_or, hits, hits_are, IsLentBy, lent_by, lent_store_obeys, lent_load_obeys}
use Rattle.monitor_handlers.proofs.Wide.{test_within}
use Rattle.monitor_handlers.proofs.Scan.{HasMasks, has_masks, scan_within}
use Rattle.monitor_handlers.proofs.Emulated.{IsDone, cfsr_within, store_by_width, store_by_width_stops, load_by_width, load_by_width_stops, finished_within}

-- the monitor's block, at the thread's state s too, and RAM behind the entry
pub record AtFault (i : Image) (t : Tables) (s : State) (b : MonitorBlock) (o : ℕ) (m : List ℕ) : Type 0 where
  pub before : IsBlock i t s.ram b
  pub is_block : IsBlock i t m b
  pub orderly : IsOrderly t b
  pub aligned : o % 4 ≡ 0

-- the halfword at the return address
pub record HalfThere (i : Image) (o : ℕ) (m : List ℕ) (half : ℕ) : Type 0 where
  pub offset : ℕ
  pub at : read 4 (o + 24) m ≡ i.flash_base + offset
  pub even : offset % 2 ≡ 0
  pub room : offset + 2 ≤ length i.flash
  pub is_half : read 2 offset i.flash ≡ half

module _ (installed : Installed) (thread : State) (Good : ProtectionState → Type 0) (good : (q : ProtectionState) → IsOff true q → Good q) where
  open installed use {image as i, tables as t, placed as p, stub}

  abbrev k : Constants
  k = constants_with stub t

  abbrev W : ℕ → PrivilegedSteps → List PrivilegedSteps → Core → (Outcome → Type 0) → Type 0
  W n s ks c Q = GivesWithin by_mpu i Good (HandlerRule i t thread) n s ks c Q

  abbrev block : ℕ
  block = t.monitor - i.ram_base

  abbrev premises : HandlerPremises
  premises = thread_premises installed thread Good good

  open premises use {handles}

  module _ (msp psp : ℕ) (u : FaultStatus) (r : ProtectionState) (good_on : Good r) (b : MonitorBlock) (o : ℕ) (m : List ℕ) (ep : psp ≡ i.ram_base + o) (h : AtFault i t thread b o m) where
    -- the words of the monitor's block are as before
    abbrev pub BlockStays : List ℕ → Type 0
    BlockStays after = (x : ℕ) → x + 4 ≤ 544 → read 4 (block + x) after ≡ read 4 (block + x) m

    -- how the list ends, by the outcome
    abbrev pub Ends : Comes → Outcome → Type 0
    Ends (Halts n) x = (d : Core) × (x ≡ Halted n d) × (d.ram ≡ m)
    Ends StopsAtBus x = ⊥
    Ends StopsUnaligned x = (d : Core) × (x ≡ Stopped Unaligned d) × (d.ram ≡ m)
    Ends (Resumes c q after) x = (d : Core) × (x ≡ AtReturn d) × IsDone msp psp r u after d × (c ≡ b) × (q ≡ psp) × BlockStays after × FrameIsOpen i t o m

    abbrev a : ℕ
    a = stacked i psp m 1

    abbrev top : ℕ
    top = read 4 (block + 4) m

    same_top : top ≤ top_of i t thread.ram
    same_top = let e = h.is_block.top_is in let f = h.before.top_is in omega (arith, e, f)

    pub ends : top ≤ stack_end t
    ends =
        let z = h.orderly.is_top in
        let few : z.0 ≤ 8 = (let x = z.3 in omega (arith, x)) in
        let most : z.0 * eighth t ≤ 8 * eighth t = grind (arith, few) in
        let at = z.1 in
        let e = h.is_block.top_is in
        omega (arith, most, at, e)

    high : stack_end t < 2 ^ 31
    high = let x = (writable installed).stack_inside.1 in let y = p.rules.ram_highest in let z = p.rules.ram_most in omega (arith, x, y, z)

    a_is : read 4 (o + 4) m ≡ a
    a_is = sym (stacked_is i psp o 1 m ep (omega arith))

    a_word : a < 2 ^ 32
    a_word = let e = a_is in let f = word_fits (o + 4) m in omega (arith, e, f)

    masks : HasMasks installed b.current
    masks = has_masks installed b.current h.orderly.current_in

    slots : k.slots ≡ number_of_slots t
    slots = slots_are i t (writable installed) stub

    mask_there : read 4 (record_at i t (writable installed) stub b.current + 4 * record_mask k.slots) i.flash ≡ (compartment_at t b.current).mask
    mask_there = ap (λ s. read 4 (record_at i t (writable installed) stub b.current + 4 * (2 * s + 2)) i.flash) slots ∙ masks.mask

    mask_room : record_at i t (writable installed) stub b.current + 4 * record_mask k.slots + 4 ≤ length i.flash
    mask_room = let e = slots in let x = masks.room in omega (arith, e, x)

    reads_there : read 4 (record_at i t (writable installed) stub b.current + 4 * record_reads k.slots) i.flash ≡ (compartment_at t b.current).reads
    reads_there = ap (λ s. read 4 (record_at i t (writable installed) stub b.current + 4 * (2 * s + 3)) i.flash) slots ∙ masks.reads

    reads_room : record_at i t (writable installed) stub b.current + 4 * record_reads k.slots + 4 ≤ length i.flash
    reads_room = let e = slots in let x = masks.room in omega (arith, e, x)

    all_hits : (mask w : ℕ) → hits i t m mask a w (length b.loans) ≡ one_or (is_lent mask a w b.loans) 0
    all_hits mask w = hits_are i t m mask a w b.loans h.is_block.has_loans h.orderly.loans p.few_lends (let x = high in omega (arith, x)) a_word

    -- the loan
    found_in : (ram : List ℕ) → IsBlock i t ram b → (mask w : ℕ) → is_lent mask a w b.loans ≡ true → IsLentBy i t ram mask a w (loan_count i t ram)
    found_in ram y mask w e = subst (λ n. IsLentBy i t ram mask a w n) (sym y.loan_count_is) (lent_by i t ram mask a w b.loans y.has_loans h.orderly.loans e)

    found : (mask w : ℕ) → is_lent mask a w b.loans ≡ true → IsLentBy i t m mask a w (loan_count i t m)
    found mask w e = found_in m h.is_block mask w e

    may_store : (w : ℕ) → is_lent (compartment_at t b.current).mask a w b.loans ≡ true → (c : Core) → c.ram ≡ m → HandlerRule i t thread Write c w a
    may_store w e c z = lent_store_obeys i t thread m a w c z (found (compartment_at t (current i t m)).mask w (subst (λ n. is_lent (compartment_at t n).mask a w b.loans ≡ true) (sym h.is_block.current_is) e))

    may_load : (w : ℕ) → is_lent (compartment_at t b.current).reads a w b.loans ≡ true → (c : Core) → c.ram ≡ m → HandlerRule i t thread Read c w a
    may_load w e c z =
        lent_load_obeys i t thread m a w c z (found (compartment_at t (current i t m)).reads w (subst (λ n. is_lent (compartment_at t n).reads a w b.loans ≡ true) (sym h.is_block.current_is) e))
        (found_in thread.ram h.before (running i t thread).reads w (subst (λ n. is_lent (compartment_at t n).reads a w b.loans ≡ true) (sym h.before.current_is) e))

    -- it lies in the stack
    in_ram : (mask w : ℕ) → IsLentBy i t m mask a w (loan_count i t m) → a ≡ i.ram_base + (a - i.ram_base)
    in_ram mask w l = let x = l.from_base in let y = (writable installed).stack_inside.0 in omega (arith, x, y)

    in_room : (mask : ℕ) (z : Width) → IsLentBy i t m mask a (byte_count z) (loan_count i t m) → (a - i.ram_base) + byte_count z ≤ i.ram_size
    in_room mask z l = let x = l.from_base in let y = l.in_stack in let v = (writable installed).stack_inside.1 in let w = (writable installed).stack_inside.0 in omega (arith, x, y, v, w)

    some_bytes : (z : Width) → 0 < byte_count z
    some_bytes Byte = omega arith
    some_bytes Half = omega arith
    some_bytes Word = omega arith

    in_size : (mask : ℕ) (z : Width) → IsLentBy i t m mask a (byte_count z) (loan_count i t m) → a - i.ram_base < i.ram_size
    in_size mask z l = let x = in_room mask z l in let y = some_bytes z in omega (arith, x, y)

    aligned_is : (z : Width) (mask : ℕ) → IsLentBy i t m mask a (byte_count z) (loan_count i t m) → nat_eq (a % byte_count z) 0 ≡ true → (i.ram_base + (a - i.ram_base)) % byte_count z ≡ 0
    aligned_is z mask l e = ap (λ x. x % byte_count z) (sym (in_ram mask (byte_count z) l)) ∙ eqb-true (a % byte_count z) 0 e

    -- a store there leaves the block
    loan_off : (w v : ℕ) (mask : ℕ) → IsLentBy i t m mask a w (loan_count i t m) → BlockStays (write w (a - i.ram_base) v m)
    loan_off w v mask l x h =
        let lo = l.from_base in
        let hi = l.in_stack in
        let g = p.block_inside.0 in
        let f = (writable installed).stack_inside.0 in
        ⊎_elim (λ z. read_below 4 (block + x) w (a - i.ram_base) v m (omega (arith, z, lo, hi, g, f, h))) (λ z. read_above 4 (block + x) w (a - i.ram_base) v m (omega (arith, z, lo, hi, g, f, h))) p.apart

    top_stays : (w v : ℕ) (m1 : List ℕ) (mask : ℕ) → IsLentBy i t m mask a w (loan_count i t m) → m1 ≡ write w (a - i.ram_base) v m → read 4 (block + 4) m1 ≡ top
    top_stays w v m1 mask l e = ap (λ m. read 4 (block + 4) m) e ∙ loan_off w v mask l 4 (omega arith)

    module _ (opens : FrameIsOpen i t o m) where
      pub io : InStack i t o top
      io = record { aligned = h.aligned; low = opens.low; high = (let x = opens.high in omega (arith, x)); ends = ends }

      pub below : i.ram_base + (o + 32) ≤ top_of i t thread.ram
      below = let x = opens.high in let y = same_top in omega (arith, x, y)

      -- a store into the frame leaves the block too
      frame_off : (y v : ℕ) (n : List ℕ) → y + 4 ≤ 32 → (x : ℕ) → x + 4 ≤ 544 → read 4 (block + x) (write 4 (psp - i.ram_base + y) v n) ≡ read 4 (block + x) n
      frame_off y v n hy x hx =
          ⊎_elim (λ z. read_below 4 (block + x) 4 (psp - i.ram_base + y) v n (omega (arith, z, ep, hx, hy))) (λ z. read_above 4 (block + x) 4 (psp - i.ram_base + y) v n (omega (arith, z, ep, hx, hy))) (apart_from_block i t o top p io)

      frame_top : (v : ℕ) (m1 : List ℕ) → m1 ≡ write 4 (o + 4 * 0) v m → read 4 (block + 4) m1 ≡ top
      frame_top v m1 e =
          ap (λ m. read 4 (block + 4) m) e
          ∙ ⊎_elim (λ z. read_below 4 (block + 4) 4 (o + 4 * 0) v m (omega (arith, z))) (λ z. read_above 4 (block + 4) 4 (o + 4 * 0) v m (omega (arith, z))) (apart_from_block i t o top p io)

      -- ---- a store

      module _ (z : Width) (cause : u.cfsr ≡ 0x82) (q : ProtectionState) (off : IsOff true q) (on : with_unit q (record q.mpu { control = 5 }) ≡ r) where
        abbrev w : ℕ
        w = byte_count z

        abbrev StoreEnds : Outcome → Type 0
        StoreEnds = Ends (emulated_store i t b psp m (byte_count z))

        store_lent : is_lent (compartment_at t b.current).mask a w b.loans ≡ true → (al : Bool) → nat_eq (a % byte_count z) 0 ≡ al →
            emulated_store i t b psp m w ≡ (if al then Resumes b psp (moved_on i psp (write w (a - i.ram_base) (stacked i psp m 0) m)) else StopsUnaligned)
        store_lent e al f =
            ap (λ x. if x then if_aligned i t b psp m w (Resumes b psp (moved_on i psp (write w (a - i.ram_base) (stacked i psp m 0) m))) else Halts 7) e
            ∙ ap (λ x. if x then Resumes b psp (moved_on i psp (write w (a - i.ram_base) (stacked i psp m 0) m)) else StopsUnaligned) f

        store_refused : is_lent (compartment_at t b.current).mask a w b.loans ≡ false → emulated_store i t b psp m w ≡ Halts 7
        store_refused e = ap (λ x. if x then if_aligned i t b psp m w (Resumes b psp (moved_on i psp (write w (a - i.ram_base) (stacked i psp m 0) m))) else Halts 7) e

        value_is : (x : ℕ) → x ≡ read 4 (o + 4 * 0) m → x ≡ stacked i psp m 0
        value_is x e = e ∙ sym (stacked_is i psp o 0 m ep (omega arith))

        store_stays : IsLentBy i t m (compartment_at t b.current).mask a w (loan_count i t m) → BlockStays (moved_on i psp (write w (a - i.ram_base) (stacked i psp m 0) m))
        store_stays l x h =
            frame_off 24 (stacked i psp (write w (a - i.ram_base) (stacked i psp m 0) m) 6 + 2) (write w (a - i.ram_base) (stacked i psp m 0) m) (omega arith) x h
            ∙ loan_off w (stacked i psp m 0) (compartment_at t b.current).mask l x h

        stored_within : {ks : List PrivilegedSteps} (v1 v2 v7 x : ℕ) → is_lent (compartment_at t b.current).mask a w b.loans ≡ true → x ≡ read 4 (o + 4 * 0) m → (al : Bool) → nat_eq (a % byte_count z) 0 ≡ al →
            W 32 (stored finished) ks (core msp psp q u m psp v1 v2 0 a x w v7) StoreEnds
        stored_within v1 v2 v7 x e ex true f =
            let l = found (compartment_at t b.current).mask w e in
            store_by_width installed thread Good good z (a - i.ram_base) a off (in_ram (compartment_at t b.current).mask w l) (aligned_is z (compartment_at t b.current).mask l f) (in_size (compartment_at t b.current).mask z l)
            (λ c y. subst (λ n. HandlerRule i t thread Write c w n) (in_ram (compartment_at t b.current).mask w l) (may_store w e c y))
            (λ m1 y7 w1 z1.
            finished_within installed thread Good good o top r off ep io below (top_stays w x m1 (compartment_at t b.current).mask l w1) cause on good_on (λ d y.
            subst (λ y. Ends y (AtReturn d)) (sym (store_lent e true f)) (d, refl, subst (λ n. IsDone msp psp r u (moved_on i psp n) d) (w1 ∙ ap (λ v. write w (a - i.ram_base) v m) (value_is x ex)) y, refl, refl, store_stays l, opens)))
        stored_within v1 v2 v7 x e ex false f =
            more_within
            (store_by_width_stops installed thread Good good z a a_word f (may_store w e)
            (λ d y. subst (λ y. Ends y (Stopped Unaligned d)) (sym (store_lent e false f)) (d, refl, y))) (omega arith)

        pub stores_within : {ks : List PrivilegedSteps} {a2 a3 a4 a5 a7 : ℕ} → W 1600 (stores k) ks (core msp psp q u m psp k.block a2 a3 a4 a5 w a7) StoreEnds
        stores_within =
            more_within
            (scan_within installed thread Good good msp psp u o top b.current (record_mask k.slots) 7 (compartment_at t b.current).mask a (length b.loans) (is_lent (compartment_at t b.current).mask a w b.loans) w off ep io below refl h.is_block.current_is h.orderly.current_in mask_there mask_room a_is h.is_block.loan_count_is h.orderly.few (all_hits (compartment_at t b.current).mask w)
            (λ e d y. subst (λ y. Ends y (Halted 7 d)) (sym (store_refused e)) (d, refl, y))
            (λ e v1 v2 v7. frame_load_within premises o top 0 off io below ep refl refl (λ x ex.
            stored_within v1 v2 v7 x e ex (nat_eq (a % byte_count z) 0) refl))) (omega arith)

        -- ---- a load

        abbrev LoadEnds : Outcome → Type 0
        LoadEnds = Ends (emulated_load i t b psp m (byte_count z))

        load_lent : is_lent (compartment_at t b.current).reads a w b.loans ≡ true → (al : Bool) → nat_eq (a % byte_count z) 0 ≡ al →
            emulated_load i t b psp m w ≡ (if al then Resumes b psp (moved_on i psp (with_stacked i psp 0 (read w (a - i.ram_base) m) m)) else StopsUnaligned)
        load_lent e al f =
            ap (λ x. if x then if_aligned i t b psp m w (Resumes b psp (moved_on i psp (with_stacked i psp 0 (read w (a - i.ram_base) m) m))) else Halts 9) e
            ∙ ap (λ x. if x then Resumes b psp (moved_on i psp (with_stacked i psp 0 (read w (a - i.ram_base) m) m)) else StopsUnaligned) f

        load_refused : is_lent (compartment_at t b.current).reads a w b.loans ≡ false → emulated_load i t b psp m w ≡ Halts 9
        load_refused e = ap (λ x. if x then if_aligned i t b psp m w (Resumes b psp (moved_on i psp (with_stacked i psp 0 (read w (a - i.ram_base) m) m))) else Halts 9) e

        result_is : (v : ℕ) (m1 : List ℕ) → v ≡ read w (a - i.ram_base) m → m1 ≡ write 4 (o + 4 * 0) v m → m1 ≡ with_stacked i psp 0 (read w (a - i.ram_base) m) m
        result_is v m1 ev e =
            let y : psp - i.ram_base ≡ o = omega (arith, ep) in
            e ∙ ap (λ v. write 4 (o + 4 * 0) v m) ev ∙ ap (λ n. write 4 (n + 4 * 0) (read w (a - i.ram_base) m) m) (sym y)

        load_stays : BlockStays (moved_on i psp (with_stacked i psp 0 (read w (a - i.ram_base) m) m))
        load_stays x h =
            frame_off 24 (stacked i psp (with_stacked i psp 0 (read w (a - i.ram_base) m) m) 6 + 2) (with_stacked i psp 0 (read w (a - i.ram_base) m) m) (omega arith) x h
            ∙ frame_off 0 (read w (a - i.ram_base) m) m (omega arith) x h

        loaded_within : {ks : List PrivilegedSteps} (v1 v2 v7 x : ℕ) → is_lent (compartment_at t b.current).reads a w b.loans ≡ true → (al : Bool) → nat_eq (a % byte_count z) 0 ≡ al →
            W 33 (loaded ▸ Store Word 5 0 frame_r0 ▸ finished) ks (core msp psp q u m psp v1 v2 0 a x w v7) LoadEnds
        loaded_within v1 v2 v7 x e true f =
            let l = found (compartment_at t b.current).reads w e in
            load_by_width installed thread Good good z (a - i.ram_base) a off (in_ram (compartment_at t b.current).reads w l) (aligned_is z (compartment_at t b.current).reads l f) (in_size (compartment_at t b.current).reads z l)
            (λ c y. subst (λ n. HandlerRule i t thread Read c w n) (in_ram (compartment_at t b.current).reads w l) (may_load w e c y))
            (λ v y7 ev.
            frame_store_within premises o top 0 off io ep refl refl (λ m1 w1 z1.
            finished_within installed thread Good good o top r off ep io below (frame_top v m1 w1) cause on good_on (λ d y.
            subst (λ y. Ends y (AtReturn d)) (sym (load_lent e true f)) (d, refl, subst (λ n. IsDone msp psp r u (moved_on i psp n) d) (result_is v m1 ev w1) y, refl, refl, load_stays, opens))))
        loaded_within v1 v2 v7 x e false f =
            more_within
            (load_by_width_stops installed thread Good good z a a_word f (may_load w e)
            (λ d y. subst (λ y. Ends y (Stopped Unaligned d)) (sym (load_lent e false f)) (d, refl, y))) (omega arith)

        pub lent_load_within : {ks : List PrivilegedSteps} {a2 a3 a4 a5 a7 : ℕ} → W 1600 (lent_load k) ks (core msp psp q u m psp k.block a2 a3 a4 a5 w a7) LoadEnds
        lent_load_within =
            more_within
            (scan_within installed thread Good good msp psp u o top b.current (record_reads k.slots) 9 (compartment_at t b.current).reads a (length b.loans) (is_lent (compartment_at t b.current).reads a w b.loans) w off ep io below refl h.is_block.current_is h.orderly.current_in reads_there reads_room a_is h.is_block.loan_count_is h.orderly.few (all_hits (compartment_at t b.current).reads w)
            (λ e d y. subst (λ y. Ends y (Halted 9 d)) (sym (load_refused e)) (d, refl, y))
            (λ e v1 v2 v7. loaded_within v1 v2 v7 _ e (nat_eq (a % byte_count z) 0) refl)) (omega arith)

      -- ---- by the halfword in r4

      widths_within : (first second third half : ℕ) {n : ℕ} {other s : PrivilegedSteps} {ks : List PrivilegedSteps} {Q : Outcome → Type 0} {q : ProtectionState} {a0 a1 a2 a3 a5 a6 a7 : ℕ} →
          (nat_eq half first ≡ true → (x : ℕ) → W n s ks (core msp psp q u m a0 a1 a2 a3 half x 4 a7) Q) →
          (nat_eq half first ≡ false → nat_eq half second ≡ true → (x : ℕ) → W n s ks (core msp psp q u m a0 a1 a2 a3 half x 1 a7) Q) →
          (nat_eq half first ≡ false → nat_eq half second ≡ false → nat_eq half third ≡ true → (x : ℕ) → W n s ks (core msp psp q u m a0 a1 a2 a3 half x 2 a7) Q) →
          (nat_eq half first ≡ false → nat_eq half second ≡ false → nat_eq half third ≡ false → (x : ℕ) → W n other (End ∷ End ∷ s ∷ ks) (core msp psp q u m a0 a1 a2 a3 half x a6 a7) Q) →
          W (20 + n) (widths first second third other s) ks (core msp psp q u m a0 a1 a2 a3 half a5 a6 a7) Q
      widths_within first second third half {n} f g l none =
          more_within
          (const_within (test_within
          (λ e1. more_within (const_within (next_within (f e1 first))) (omega arith))
          (λ e1. const_within (test_within
          (λ e2. more_within (const_within (next_within (next_within (g e1 e2 second)))) (omega arith))
          (λ e2. const_within (test_within
          (λ e3. const_within (next_within (next_within (next_within (l e1 e2 e3 third)))))
          (λ e3. more_within (none e1 e2 e3 third) (omega arith)))))))) (omega arith)

      module _ (cause : u.cfsr ≡ 0x82) (q : ProtectionState) (off : IsOff true q) (on : with_unit q (record q.mpu { control = 5 }) ≡ r) (half : ℕ) where
        abbrev HalfEnds : Outcome → Type 0
        HalfEnds = Ends (by_half i t b psp m half)

        store_of : (z : Width) → by_half i t b psp m half ≡ emulated_store i t b psp m (byte_count z) → {ks : List PrivilegedSteps} (a2 a3 a5 a7 : ℕ) → W 1640 (stores k) ks (core msp psp q u m psp k.block a2 a3 half a5 (byte_count z) a7) HalfEnds
        store_of z e {ks} a2 a3 a5 a7 = subst (λ y. W 1640 (stores k) ks (core msp psp q u m psp k.block a2 a3 half a5 (byte_count z) a7) (Ends y)) (sym e) (more_within (stores_within z cause q off on) (omega arith))

        load_of : (z : Width) → by_half i t b psp m half ≡ emulated_load i t b psp m (byte_count z) → {ks : List PrivilegedSteps} (a2 a3 a5 a7 : ℕ) → W 1600 (lent_load k) ks (core msp psp q u m psp k.block a2 a3 half a5 (byte_count z) a7) HalfEnds
        load_of z e {ks} a2 a3 a5 a7 = subst (λ y. W 1600 (lent_load k) ks (core msp psp q u m psp k.block a2 a3 half a5 (byte_count z) a7) (Ends y)) (sym e) (lent_load_within z cause q off on)

        no_access : by_half i t b psp m half ≡ Halts 8 → (d : Core) → d.ram ≡ m → HalfEnds (Halted 8 d)
        no_access e d x = subst (λ y. Ends y (Halted 8 d)) (sym e) (d, refl, x)

        loads_within : nat_eq half 0x6008 ≡ false → nat_eq half 0x7008 ≡ false → nat_eq half 0x8008 ≡ false → (closed : Bool) → t.closed ≡ closed → {ks : List PrivilegedSteps} (a2 a3 a5 a6 a7 : ℕ) →
            W 1640 (loads k closed) ks (core msp psp q u m psp k.block a2 a3 half a5 a6 a7) HalfEnds
        loads_within n1 n2 n3 false c a2 a3 a5 a6 a7 = more_within (halt_within (no_access (rw (n1, n2, n3, c) refl) _ refl)) (omega arith)
        loads_within n1 n2 n3 true c a2 a3 a5 a6 a7 =
            more_within
            (widths_within 0x6808 0x7808 0x8808 half {n = 1600}
            (λ e x. load_of Word (rw (n1, n2, n3, c, e) refl) a2 a3 x a7)
            (λ d e x. load_of Byte (rw (n1, n2, n3, c, d, e) refl) a2 a3 x a7)
            (λ d f e x. load_of Half (rw (n1, n2, n3, c, d, f, e) refl) a2 a3 x a7)
            (λ d f e x. more_within (halt_within (no_access (rw (n1, n2, n3, c, d, f, e) refl) _ refl)) (omega arith))) (omega arith)

        half_within : {ks : List PrivilegedSteps} {a2 a3 a5 a6 a7 : ℕ} → W 1660 (widths 0x6008 0x7008 0x8008 (loads k t.closed) (stores k)) ks (core msp psp q u m psp k.block a2 a3 half a5 a6 a7) HalfEnds
        half_within {a2} {a3} {a6} {a7} =
            more_within
            (widths_within 0x6008 0x7008 0x8008 half {n = 1640}
            (λ e x. store_of Word (rw e refl) a2 a3 x a7)
            (λ d e x. store_of Byte (rw (d, e) refl) a2 a3 x a7)
            (λ d f e x. store_of Half (rw (d, f, e) refl) a2 a3 x a7)
            (λ d f e x. loads_within d f e t.closed refl a2 a3 x a6 a7)) (omega arith)

    -- ---- the tests in front

    open_is : FrameIsOpen i t o m → is_open i t b psp m ≡ true
    open_is f =
        let e = h.is_block.top_is in
        let low = f.low in
        let up = f.high in
        let s = stacked_is i psp o 7 m ep (omega arith) in
        let x : nat_le t.stack.base psp ≡ true = le-leb t.stack.base psp (omega (arith, low, ep)) in
        let y : nat_le (psp + 32) b.top ≡ true = le-leb (psp + 32) b.top (omega (arith, up, ep, e)) in
        let z : nat_eq (bit_at (stacked i psp m 7) 9) 0 ≡ true = ap (λ n. nat_eq (bit_at n 9) 0) s ∙ eq-eqb (bit_at (read 4 (o + 28) m) 9) 0 f.no_pad in
        rw (x, y, z) refl

    not_open_is : (FrameIsOpen i t o m → ⊥) → is_open i t b psp m ≡ false
    not_open_is shut = pick (is_open i t b psp m) refl
      where
        pick : (v : Bool) → is_open i t b psp m ≡ v → is_open i t b psp m ≡ false
        pick false e = e
        pick true e =
            let x = and_parts (nat_le t.stack.base psp) (nat_le (psp + 32) b.top && nat_eq (bit_at (stacked i psp m 7) 9) 0) e in
            let y = and_parts (nat_le (psp + 32) b.top) (nat_eq (bit_at (stacked i psp m 7) 9) 0) x.1 in
            let low = leb-true t.stack.base psp x.0 in
            let up = leb-true (psp + 32) b.top y.0 in
            let top_is = h.is_block.top_is in
            let s = stacked_is i psp o 7 m ep (omega arith) in
            absurd (shut (record {
              low = omega (arith, low, ep);
              high = omega (arith, up, ep, top_is);
              no_pad = ap (λ n. bit_at n 9) (sym s) ∙ eqb-true (bit_at (stacked i psp m 7) 9) 0 y.1;
            }))

    shut_outcome : (half : ℕ) → is_open i t b psp m ≡ false → fault_outcome i t b psp m u.cfsr half ≡ Halts 4
    unfolding fault_outcome
    shut_outcome half e = ap (λ x. if x then (if is_data_fault i t b psp m u.cfsr then by_half i t b psp m half else Halts 8) else Halts 4) e

    fetch_outcome : (half : ℕ) → is_open i t b psp m ≡ true → u.cfsr ≡ 1 → fault_outcome i t b psp m u.cfsr half ≡ Halts 8
    unfolding fault_outcome
    fetch_outcome half e c =
        ap (λ x. if x then (if is_data_fault i t b psp m u.cfsr then by_half i t b psp m half else Halts 8) else Halts 4) e
        ∙ ap (λ n. if is_data_fault i t b psp m n then by_half i t b psp m half else Halts 8) c

    data_outcome : (half : ℕ) → is_open i t b psp m ≡ true → u.cfsr ≡ 0x82 → fault_outcome i t b psp m u.cfsr half ≡ by_half i t b psp m half
    unfolding fault_outcome
    data_outcome half e c =
        ap (λ x. if x then (if is_data_fault i t b psp m u.cfsr then by_half i t b psp m half else Halts 8) else Halts 4) e
        ∙ ap (λ n. if is_data_fault i t b psp m n then by_half i t b psp m half else Halts 8) c

    fetch_bits : (x : ℕ) → x ≡ bit_and u.cfsr 0x82 → u.cfsr ≡ 1 → x ≡ 0x82 → ⊥
    fetch_bits x e c d = let z : 0x82 ≡ 0 = sym d ∙ e ∙ ap (λ n. bit_and n 0x82) c in omega (arith, z)

    data_bits : (x : ℕ) → x ≡ bit_and u.cfsr 0x82 → u.cfsr ≡ 0x82 → x ≡ 0x82
    data_bits x e c = e ∙ ap (λ n. bit_and n 0x82) c

    -- the whole list, from the core behind the entry
    pub memfault_within : {q : ProtectionState} (half : ℕ) {a0 a1 a2 a3 a4 a5 a6 a7 : ℕ} → q.handler ≡ true → is_unprivileged q ≡ false → with_unit q (record q.mpu { control = 5 }) ≡ r → o < 2 ^ 31 → (u.cfsr ≡ 1) ⊎ ((u.cfsr ≡ 0x82) × HalfThere i o m half) →
        W 1730 (memfault k) [] (core msp psp q u m a0 a1 a2 a3 a4 a5 a6 a7) (Ends (fault_outcome i t b psp m u.cfsr half))
    memfault_within half mode un on small cause =
        more_within
        (opened_within premises o mode un ep h.aligned small ends same_top
        (λ d x shut. subst (λ y. Ends y (Halted 4 d)) (sym (shut_outcome half (not_open_is shut))) (d, refl, x))
        (λ q1 v4 eq off f.
        const_within (cfsr_within installed thread Good good off refl (const_within (alu_within (λ x5 e5. tested v4 x5 (ap (λ v. with_unit v (record v.mpu { control = 5 })) eq ∙ on) off f e5 cause)))))) (omega arith)
      where
        tested : {q1 : ProtectionState} (v4 x5 : ℕ) → with_unit q1 (record q1.mpu { control = 5 }) ≡ r → IsOff true q1 → FrameIsOpen i t o m → x5 ≡ bit_and u.cfsr 0x82 → (u.cfsr ≡ 1) ⊎ ((u.cfsr ≡ 0x82) × HalfThere i o m half) →
            W 1667 (must Eq 5 6 halt_fault ▸ Load Word 4 0 frame_return ▸ Load Half 4 4 0 ▸ widths 0x6008 0x7008 0x8008 (loads k t.closed) ▸ stores k) [] (core msp psp q1 u m psp k.block k.stack top CFSR x5 0x82 0) (Ends (fault_outcome i t b psp m u.cfsr half))
        tested {q1} v4 x5 on1 off f e5 (inl c) =
            must_within {m = 1662}
            (λ e. subst (λ y. Ends y (Halted 8 (core msp psp q1 u m psp k.block k.stack top CFSR x5 0x82 0))) (sym (fetch_outcome half (open_is f) c)) (core msp psp q1 u m psp k.block k.stack top CFSR x5 0x82 0, refl, refl))
            (λ e. absurd (fetch_bits x5 e5 c (eqb-true x5 0x82 e)))
        tested {q1} v4 x5 on1 off f e5 (inr (c, there)) =
            must_within {m = 1662}
            (λ e. absurd (eq_false x5 0x82 e (data_bits x5 e5 c)))
            (λ e. frame_load_within premises o top 6 off (io f) (below f) ep refl refl (λ x4 e4.
            load_flash_within p.rules there.offset {z = Half} (open_while_off q1 off.control) (at_half x4 e4) half_aligned in_flash (handles.plain.flash _ 2 there.offset there.room) (λ y4 f4.
            at_within (ap (λ x. core msp psp q1 u m psp k.block k.stack top x x5 0x82 0) (f4 ∙ there.is_half))
            (subst (λ y. W 1660 (widths 0x6008 0x7008 0x8008 (loads k t.closed) (stores k)) [] (core msp psp q1 u m psp k.block k.stack top half x5 0x82 0) (Ends y)) (sym (data_outcome half (open_is f) c)) (half_within f c q1 off on1 half)))))
          where
            at_half : (x : ℕ) → x ≡ read 4 (o + 4 * 6) m → x + 2 * 0 ≡ i.flash_base + there.offset
            at_half x e = let z = there.at in omega (arith, e, z)

            half_aligned : (i.flash_base + there.offset) % 2 ≡ 0
            half_aligned = let z = there.even in let y = p.rules.flash_aligned in omega (arith, z, y)

            in_flash : there.offset < length i.flash
            in_flash = let z = there.room in omega (arith, z)

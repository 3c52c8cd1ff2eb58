-- The answers of leave and of enter.
use Rattle.std.specs.Prelude.{if◌then◌else◌, slice_index}
use Rattle.std.proofs.Common.{◌≡◌, ℕ, zero, suc, ◌+◌, ◌-◌, ◌*◌, ◌/◌, ◌^◌, ◌<◌, ◌≤◌, ◌⊎◌, inl, inr, ⊎_elim, Bool, true, false, ◌&&◌, List, ◌∷◌, length, map, drop, nat_eq, nat_lt, Option, Some, None, refl, sym, ap, ◌∙◌, subst, arith, length-drop}
use Rattle.std.proofs.lemmas.List.{length-map}
use Rattle.std.proofs.lemmas.Bool.{ltb-true, eqb-true, lt-ltb, eq-eqb, le-ltb, and_from, and_parts as both}
use Rattle.base_words.specs.Bytes.{read, write, write_all, cut}
use Rattle.base_words.proofs.Bytes.{read_all, read_below_all, read_above_all, length-write_all, cut_small, cut_four}
use Rattle.machine_protection.specs.Laws.{kept_region}
use Rattle.machine_protection.specs.Registers.{Registers}
use Rattle.machine_devices.specs.declared.image.Image.{Image}
use Rattle.machine_devices.specs.Rules.{block_size}
use Rattle.machine_bus.specs.Locations.{InFlash, location}
use Rattle.machine_model.specs.declared.state.ProtectionState.{ProtectionState}
use Rattle.machine_model.specs.State.{State}
use Rattle.monitor_steps.specs.Core.{Core}
use Rattle.monitor_steps.specs.Effect.{Outcome as PrivilegedOutcome, Halted, AtReturn}
use Rattle.monitor_steps.proofs.Gives.{word_same, word_fits}
use Rattle.monitor_model.specs.declared.tables.TargetRecord.{TargetRecord}
use Rattle.monitor_model.specs.declared.tables.Tables.{Tables}
use Rattle.monitor_model.specs.Records.{compartment_at, nobody, number_of_slots, site_at, targets_of, last_with_entry, stack_end, rounded, eighth}
use Rattle.monitor_model.specs.Regions.{stack_region, regions_for}
use Rattle.monitor_model.specs.Placed.{IsCompartment, IsEntry}
use Rattle.monitor_model.specs.Block.{Saved, MonitorBlock, entered, left}
use Rattle.monitor_model.specs.BlockWords.{block_word, depth, saved_psp, HasSaved}
use Rattle.monitor_model.specs.Confined.{IsSvc}
use Rattle.monitor_model.specs.Invariant.{IsSaved, AreSaved}
use Rattle.monitor_model.specs.Handlers.{LoadFor, ForStack, ForReturn}
use Rattle.monitor_model.specs.Outcomes.{Outcome, Halts, Resumes, stacked, with_stacked, moved_on, return_place, r12_place}
use Rattle.monitor_model.specs.SvcOutcome.{word, callee_frame, enter_to, enter_by, enter_at, leave_to}
use Rattle.monitor_program.specs.Constants.{Constants, constants_with}
use Rattle.monitor_laws.proofs.Off.{core, with_unit}
use Rattle.monitor_laws.proofs.Opened.{FrameIsOpen}
use Rattle.monitor_laws.proofs.HandlerWords.{InStack, Changed, changed_write, apart_from_block}
use Rattle.monitor_laws.proofs.Leave.{HasFirstRegions}
use Rattle.monitor_laws.proofs.LeaveWords.{Leaving, HasLeft}
use Rattle.monitor_handlers.proofs.Memories.{memory_by}
use Rattle.monitor_handlers.proofs.Frames.{stacked_is}
use Rattle.monitor_handlers.proofs.Blocks.{saved_stay, loans_stay, loans_dropped}
use Rattle.monitor_handlers.proofs.Returned.{LeavesRam, Answers}
use Rattle.monitor_handlers.proofs.Enter.{HasEntered, NewTop}
use Rattle.monitor_handlers.proofs.Calling.{Calling, off, halted, frame, top_before, installed_at}
use Rattle.base_laws.proofs.Lists.{each_at}

module _ (i : Image) (t : Tables) (stub : ℕ) (s : State) (m : MonitorBlock) (psp o : ℕ) (memory : List ℕ) (c : Calling i t s m psp o memory) where
  abbrev k : Constants
  k = constants_with stub t

  abbrev b : ℕ
  b = t.monitor - i.ram_base

  abbrev Q : Outcome → PrivilegedOutcome → Type 0
  Q h z = Answers i t s m memory h z

  -- ---- the unit

  slots_count : length (compartment_at t m.current).slots ≡ number_of_slots t
  slots_count = (each_at (IsCompartment i t) t.comps nobody m.current c.placed.comps c.invariant.inv.orderly.current_in).count

  pub first_regions : HasFirstRegions i t (record s.protection.mpu { control = 0 })
  first_regions = record {
    others = kept_region (compartment_at t m.current).code ∷ kept_region (stack_region t m.top) ∷ map kept_region (compartment_at t m.current).slots;
    count = let e = slots_count in let l = length-map (compartment_at t m.current).slots kept_region in omega (arith, e, l);
    regions = c.invariant.inv.regions;
  }

  -- ---- leave

  module _ (e : Saved) (es : List Saved) (is : m.saved ≡ e ∷ es) where
    abbrev d : ℕ
    d = length es

    abbrev back : ℕ
    back = e.psp - i.ram_base

    pub saved_is : IsSaved t (length es) m.top m.mark e
    saved_is = (subst (λ l. AreSaved t m.top m.mark l) is c.invariant.inv.orderly.saved).0

    has_saved : HasSaved i t memory (e ∷ es)
    has_saved = subst (λ l. HasSaved i t memory l) is c.is_block.has_saved

    count_is : length m.saved ≡ suc (length es)
    count_is = ap (λ l. length l) is

    few : length es < 8
    few = let x = saved_is.is_top.3 in let y = saved_is.is_top.2 in omega (arith, x, y)

    ram_below : i.ram_base ≤ t.stack.base
    ram_below = let a = c.placed.stack_base in let r = c.placed.stack.place.0 in omega (arith, a, r)

    back_is : i.ram_base + back ≡ e.psp
    back_is = let x = saved_is.from_base in let y = ram_below in omega (arith, x, y)

    saved_end : e.top ≤ stack_end t
    saved_end =
        let z = saved_is.is_top in
        let f : z.0 ≤ 8 = (let x = z.3 in omega (arith, x)) in
        let most : z.0 * eighth t ≤ 8 * eighth t = grind (arith, f) in
        let at = z.1 in
        omega (arith, most, at)

    pub back_frame : InStack i t back e.top
    back_frame = record {
      aligned = let x = saved_is.aligned in let y = back_is in let r = c.placed.rules.ram_aligned in omega (arith, x, y, r);
      low = let x = saved_is.from_base in let y = back_is in omega (arith, x, y);
      high = let x = saved_is.inside in let y = back_is in omega (arith, x, y);
      ends = saved_end;
    }

    pub here_frame : FrameIsOpen i t o memory → InStack i t o e.top
    here_frame f = record {
      aligned = c.aligned;
      low = f.low;
      high = let x = (frame i t stub s m psp o memory c f).high in let y = saved_is.above in let z = saved_is.inside in omega (arith, x, y, z);
      ends = saved_end;
    }

    pub leaving : Leaving (installed_at c stub) memory (length es) back e.current e.top e.mark
    leaving = record {
      depth = c.is_block.depth_is ∙ count_is;
      few = few;
      saved_psp = at 32 (32 + 16 * length es) (omega arith) ∙ has_saved.0.psp ∙ sym back_is;
      saved_current = at 36 (32 + 16 * length es + 4) (omega arith) ∙ has_saved.0.current;
      saved_top = at 40 (32 + 16 * length es + 8) (omega arith) ∙ has_saved.0.top;
      saved_mark = at 44 (32 + 16 * length es + 12) (omega arith) ∙ has_saved.0.mark;
      as_long = c.as_long;
    }
      where
        at : (x y : ℕ) → 16 * length es + x ≡ y → read 4 (t.monitor - i.ram_base + (16 * length es + x)) memory ≡ block_word i t memory y
        at x y z = ap (λ z. read 4 (t.monitor - i.ram_base + z) memory) z

    abbrev after : List ℕ
    after = with_stacked i e.psp 0 (word i t stub m psp memory 0) memory

    after_is : after ≡ write 4 (e.psp - i.ram_base) (word i t stub m psp memory 0) memory
    after_is = let z : e.psp - i.ram_base + 4 * 0 ≡ e.psp - i.ram_base = omega arith in ap (λ o. write 4 o (word i t stub m psp memory 0) memory) z

    result : word i t stub m psp memory 0 ≡ read 4 o memory
    result = stacked_is i psp o 0 memory c.at (omega arith) ∙ (let z : o + 4 * 0 ≡ o = omega arith in ap (λ o. read 4 o memory) z)

    left_ram : (new : List ℕ) → HasLeft (installed_at c stub) o memory new (length es) back e.current e.top e.mark → LeavesRam i t m (left m e es) after new
    left_ram new h = record {
      is_block = record {
        current_is = h.current_is;
        top_is = h.top_is;
        depth_is = h.depth;
        loan_count_is = h.loans ∙ c.is_block.mark_is ∙ kept;
        mark_is = h.mark_is;
        has_saved = saved_stay i t memory new es (λ x lo hi. at x (omega (arith, lo)) (let f = few in omega (arith, hi, f))) has_saved.1;
        has_loans = loans_dropped i t new (length m.loans - m.mark) m.loans (loans_stay i t memory new m.loans (λ x lo hi. at x (omega (arith, lo)) (let f = c.invariant.inv.orderly.few in omega (arith, hi, f))) c.is_block.has_loans);
      };
      is_memory = memory_by i t back 1 new after (h.as_long ∙ sym long) words others;
      words_stay = λ z. absurd (let y : es ≡ e ∷ es = ap (λ (z : MonitorBlock). z.saved) z ∙ is in let n : length es ≡ suc (length es) = ap (λ l. length l) y in omega (arith, n));
    }
      where
        kept : m.mark ≡ length (drop (length m.loans - m.mark) m.loans)
        kept = let x = length-drop (length m.loans - m.mark) m.loans in let y = c.invariant.inv.orderly.marks in omega (arith, x, y)

        off_frame : (x : ℕ) → x + 4 ≤ 1024 → (t.monitor - i.ram_base + x + 4 ≤ e.psp - i.ram_base) ⊎ (e.psp - i.ram_base + 4 ≤ t.monitor - i.ram_base + x)
        off_frame x h = ⊎_elim (λ y. inl (omega (arith, y, h))) (λ y. inr (omega (arith, y))) (apart_from_block i t back e.top c.placed back_frame)

        at : (x : ℕ) → 20 ≤ x → x + 4 ≤ 544 → block_word i t new x ≡ block_word i t memory x
        at x lo hi = h.others 4 (t.monitor - i.ram_base + x) (inr (omega (arith, lo))) (off_frame x (omega (arith, hi)))

        changed : Changed (e.psp - i.ram_base) (e.psp - i.ram_base + 4) memory after
        changed = changed_write (e.psp - i.ram_base) (word i t stub m psp memory 0) memory after after_is

        long : length after ≡ length memory
        long = changed.as_long

        room : e.psp - i.ram_base + 4 ≤ length memory
        room = let l = c.as_long in let x = back_frame.high in let y = back_frame.ends in let z = c.placed.stack.place.1 in let a = c.placed.stack_base in let b = c.placed.stack_size in omega (arith, l, x, y, z, a, b)

        words : (k : ℕ) → k < 1 → read 4 (e.psp - i.ram_base + 4 * k) new ≡ read 4 (e.psp - i.ram_base + 4 * k) after
        words zero lt =
            (let z : e.psp - i.ram_base + 4 * 0 ≡ e.psp - i.ram_base = omega arith in subst (λ x. read 4 x new ≡ read 4 x after) (sym z)
            (h.result ∙ sym result ∙ sym (ap (λ n. read 4 (e.psp - i.ram_base) n) after_is ∙ word_same (e.psp - i.ram_base) (word i t stub m psp memory 0) memory room (let f = word_fits o memory in let r = result in omega (arith, f, r)))))
        words (suc k) lt = absurd (omega (arith, lt))

        others : (x : ℕ) → (x + 1 ≤ t.monitor - i.ram_base) ⊎ (t.monitor - i.ram_base + 1024 ≤ x) → (x + 1 ≤ e.psp - i.ram_base) ⊎ (e.psp - i.ram_base + 4 * 1 ≤ x) → read 1 x new ≡ read 1 x after
        others x u v =
            h.others 1 x (⊎_elim (λ y. inl y) (λ y. inr (omega (arith, y))) u) (⊎_elim (λ y. inl y) (λ y. inr (omega (arith, y))) v)
            ∙ sym (changed.reads 1 x (⊎_elim (λ y. inl y) (λ y. inr (omega (arith, y))) v))

    -- the frame that waits, by the words of the thread's state
    waits : IsSvc i t 1 s → (a : ℕ) → e.psp ≤ a → a < e.psp + 32 → LoadFor i t s a
    waits is_svc a lo hi = ForReturn is_svc (omega (arith, deep), subst (λ n. n ≤ a) (sym psp_was) lo, subst (λ n. a < n + 32) (sym psp_was) hi)
      where
        deep : depth i t s.ram ≡ suc (length es)
        deep = c.invariant.inv.is_block.depth_is ∙ count_is

        psp_was : saved_psp i t s.ram (depth i t s.ram - 1) ≡ e.psp
        psp_was =
            (let z : depth i t s.ram - 1 ≡ length es = omega (arith, deep) in ap (λ k. saved_psp i t s.ram k) z)
            ∙ (subst (λ l. HasSaved i t s.ram l) is c.invariant.inv.is_block.has_saved).0.psp

    pub leave_goes : IsSvc i t 1 s → (q : ProtectionState) (new : List ℕ) (b0 b1 b2 b3 b4 b5 b6 b7 : ℕ) (u : Registers) → q ≡ with_unit (off i t stub s m psp o memory c) (record u { control = 5 }) → q.mpu.regions ≡ regions_for i t e.current e.top → HasLeft (installed_at c stub) o memory new (length es) back e.current e.top e.mark →
        Q (leave_to i t stub m psp memory (e ∷ es)) (AtReturn (core (t.monitor + block_size) (i.ram_base + back) q s.status new b0 b1 b2 b3 b4 b5 b6 b7))
    leave_goes is_svc q new b0 b1 b2 b3 b4 b5 b6 b7 u eq er h = (
      core (t.monitor + block_size) (i.ram_base + back) q s.status new b0 b1 b2 b3 b4 b5 b6 b7,
      refl,
      record {
        msp = refl;
        psp_is = back_is;
        unprivileged = ap (λ q. q.unprivileged) eq ∙ c.invariant.inv.unprivileged;
        control = ap (λ q. q.mpu.control) eq;
        regions = er;
        unit_stays = λ z. absurd (let x = saved_is.above in let y = saved_is.inside in omega (arith, x, y, z));
        no_fault = c.invariant.inv.no_fault;
        enabled = refl;
        ram = left_ram new h;
        offset = back;
        at = sym back_is;
        frame = back_frame;
        may_load = waits is_svc;
        current_in = saved_is.current_in;
        saved = length es;
        is_top = saved_is.is_top;
      },
    )

  -- ---- enter, whose return address is that of flash offset ro

  module _ (ret ro : ℕ) (return_is : read 4 (o + 24) memory ≡ ret) (at_flash : location i ret ≡ InFlash ro) where
    ret_word : word i t stub m psp memory return_place ≡ ret
    ret_word = stacked_is i psp o 6 memory c.at (omega arith) ∙ return_is

    wanted_word : word i t stub m psp memory r12_place ≡ read 4 (o + 16) memory
    wanted_word = stacked_is i psp o 4 memory c.at (omega arith)

    enter_is : enter_at i t stub m psp memory (location i (word i t stub m psp memory return_place)) ≡ enter_by i t stub m psp memory (read 2 ro i.flash)
    enter_is = ap (λ r. enter_at i t stub m psp memory (location i r)) ret_word ∙ ap (λ p. enter_at i t stub m psp memory p) at_flash

    abbrev last : Option TargetRecord
    last = last_with_entry (read 4 (o + 16) memory) (targets_of t (site_at t (read 2 ro i.flash)))

    found_is : read 2 ro i.flash < length t.sites → (site_at t (read 2 ro i.flash)).ret ≡ ret → enter_by i t stub m psp memory (read 2 ro i.flash) ≡ enter_to i t stub m psp memory last
    found_is lt re =
        ap (λ b. if b then enter_to i t stub m psp memory (last_with_entry (word i t stub m psp memory r12_place) (targets_of t (site_at t (read 2 ro i.flash)))) else Halts 2)
        (and_from (nat_lt (read 2 ro i.flash) (length t.sites)) (nat_eq (site_at t (read 2 ro i.flash)).ret (word i t stub m psp memory return_place)) (lt-ltb (read 2 ro i.flash) (length t.sites) lt) (eq-eqb (site_at t (read 2 ro i.flash)).ret (word i t stub m psp memory return_place) (re ∙ sym ret_word)))
        ∙ ap (λ w. enter_to i t stub m psp memory (last_with_entry w (targets_of t (site_at t (read 2 ro i.flash))))) wanted_word

    pub no_site_halts : (d : Core) → d.ram ≡ memory → (read 2 ro i.flash < length t.sites → (site_at t (read 2 ro i.flash)).ret ≡ ret → ⊥) → Q (enter_at i t stub m psp memory (location i (word i t stub m psp memory return_place))) (Halted 2 d)
    no_site_halts d r refused = subst (λ h. Q h (Halted 2 d)) (sym enter_is) (by (nat_lt (read 2 ro i.flash) (length t.sites) && nat_eq (site_at t (read 2 ro i.flash)).ret (word i t stub m psp memory return_place)) refl)
      where
        by : (x : Bool) → (nat_lt (read 2 ro i.flash) (length t.sites) && nat_eq (site_at t (read 2 ro i.flash)).ret (word i t stub m psp memory return_place)) ≡ x → Q (enter_by i t stub m psp memory (read 2 ro i.flash)) (Halted 2 d)
        by true e =
            let z = both (nat_lt (read 2 ro i.flash) (length t.sites)) (nat_eq (site_at t (read 2 ro i.flash)).ret (word i t stub m psp memory return_place)) e in
            absurd (refused (ltb-true (read 2 ro i.flash) (length t.sites) z.0) (eqb-true (site_at t (read 2 ro i.flash)).ret (word i t stub m psp memory return_place) z.1 ∙ ret_word))
        by false e =
            subst (λ b. Q (if b then enter_to i t stub m psp memory (last_with_entry (word i t stub m psp memory r12_place) (targets_of t (site_at t (read 2 ro i.flash)))) else Halts 2) (Halted 2 d)) (sym e) (halted i t stub s m psp o memory c 2 d r)

    pub no_target_halts : (d : Core) → d.ram ≡ memory → read 2 ro i.flash < length t.sites → (site_at t (read 2 ro i.flash)).ret ≡ ret → last ≡ None → Q (enter_at i t stub m psp memory (location i (word i t stub m psp memory return_place))) (Halted 3 d)
    no_target_halts d r lt re e = subst (λ h. Q h (Halted 3 d)) (sym (enter_is ∙ found_is lt re ∙ ap (λ l. enter_to i t stub m psp memory l) e)) (halted i t stub s m psp o memory c 3 d r)

    -- the stack's base is the new TOP, or not
    pub no_stack_halts : (d : Core) (g : TargetRecord) → d.ram ≡ memory → read 2 ro i.flash < length t.sites → (site_at t (read 2 ro i.flash)).ret ≡ ret → last ≡ Some g → rounded t psp ≡ t.stack.base → Q (enter_at i t stub m psp memory (location i (word i t stub m psp memory return_place))) (Halted 5 d)
    no_stack_halts d g r lt re e z =
        subst (λ h. Q h (Halted 5 d))
        (sym (enter_is ∙ found_is lt re ∙ ap (λ l. enter_to i t stub m psp memory l) e
        ∙ ap (λ b. if b then Resumes (entered m g.compartment (rounded t psp) psp) (rounded t psp - 32) (write_all 4 (rounded t psp - 32 - i.ram_base) (callee_frame i t stub m psp memory g) (moved_on i psp memory)) else Halts 5) (not_below z)))
        (halted i t stub s m psp o memory c 5 d r)
      where
        not_below : rounded t psp ≡ t.stack.base → nat_lt t.stack.base (rounded t psp) ≡ false
        not_below z = le-ltb t.stack.base (rounded t psp) (omega (arith, z))

    -- ---- the callee

    module _ (g : TargetRecord) (lt : read 2 ro i.flash < length t.sites) (re : (site_at t (read 2 ro i.flash)).ret ≡ ret) (e : last ≡ Some g) (ie : IsEntry t g.entry g.compartment) (wanted_is : g.entry ≡ read 4 (o + 16) memory) (z : NewTop i t c.placed psp) (f : FrameIsOpen i t o memory) where
      abbrev after_enter : List ℕ
      after_enter = write_all 4 (rounded t psp - 32 - i.ram_base) (callee_frame i t stub m psp memory g) (moved_on i psp memory)

      outcome : enter_at i t stub m psp memory (location i (word i t stub m psp memory return_place)) ≡ Resumes (entered m g.compartment (rounded t psp) psp) (rounded t psp - 32) after_enter
      outcome =
          enter_is ∙ found_is lt re ∙ ap (λ l. enter_to i t stub m psp memory l) e
          ∙ ap (λ b. if b then Resumes (entered m g.compartment (rounded t psp) psp) (rounded t psp - 32) after_enter else Halts 5) (lt-ltb t.stack.base (rounded t psp) (let x = z.above in omega (arith, x)))

      base_inside : i.ram_base ≤ t.stack.base
      base_inside = let a = c.placed.stack_base in let r = c.placed.stack.place.0 in omega (arith, a, r)

      fo_is : rounded t psp ≡ i.ram_base + (rounded t psp - i.ram_base - 32 + 32)
      fo_is = let x = z.above in let y = base_inside in omega (arith, x, y)

      new_frame : InStack i t (rounded t psp - i.ram_base - 32) (rounded t psp)
      new_frame = record {
        aligned = let e = fo_is in let x = z.aligned in let r = c.placed.rules.ram_aligned in omega (arith, e, x, r);
        low = let e = fo_is in let x = z.above in omega (arith, e, x);
        high = let e = fo_is in omega (arith, e);
        ends = let x = z.below in let y = c.at in let h = (frame i t stub s m psp o memory c f).high in let w = (frame i t stub s m psp o memory c f).ends in omega (arith, x, y, h, w);
      }

      new_room : rounded t psp - i.ram_base - 32 + 32 ≤ i.ram_size
      new_room = let x = new_frame.high in let y = new_frame.ends in let v = c.placed.stack.place.1 in let a = c.placed.stack_base in let b = c.placed.stack_size in omega (arith, x, y, v, a, b)

      -- it lies below the caller's
      below : rounded t psp - i.ram_base - 32 + 32 ≤ o
      below = let e = fo_is in let x = z.below in let y = c.at in omega (arith, e, x, y)

      shallow : length m.saved < 8
      shallow = let x = c.invariant.inv.orderly.is_top.3 in let y = c.invariant.inv.orderly.is_top.2 in omega (arith, x, y)

      moved_is : moved_on i psp memory ≡ write 4 (o + 24) (ret + 2) memory
      moved_is =
          (let x : psp - i.ram_base + 4 * 6 ≡ o + 24 = (let y = c.at in omega (arith, y)) in ap (λ a. write 4 a (stacked i psp memory return_place + 2) memory) x)
          ∙ ap (λ v. write 4 (o + 24) (v + 2) memory) ret_word

      -- the words of the frame
      wanted_small : g.entry < 2 ^ 32
      wanted_small = let x = word_fits (o + 16) memory in omega (arith, wanted_is, x)

      word_small : (k : ℕ) → k < 8 → word i t stub m psp memory k < 2 ^ 32
      word_small k h = let x = stacked_is i psp o k memory c.at h in let y = word_fits (o + 4 * k) memory in omega (arith, x, y)

      entry_even : g.entry / 2 * 2 ≡ g.entry - 1
      entry_even = let x = ie.odd in omega (arith, x)

      module _ (raised new : List ℕ) (raised_is : raised ≡ write 4 (o + 24) (ret + 2) memory) (h : HasEntered i t k.stub_entry psp o (rounded t psp - i.ram_base - 32) (length m.saved) g.compartment (rounded t psp) (g.entry - 1) raised new) where
        up : Changed (o + 24) (o + 24 + 4) memory raised
        up = changed_write (o + 24) (ret + 2) memory raised raised_is

        -- the block's words behind the first write
        in_block : (x : ℕ) → x + 4 ≤ 544 → read 4 (t.monitor - i.ram_base + x) raised ≡ block_word i t memory x
        in_block x hi = up.reads 4 (t.monitor - i.ram_base + x) (⊎_elim (λ y. inl (omega (arith, y, hi))) (λ y. inr (omega (arith, y))) (apart_from_block i t o m.top c.placed (frame i t stub s m psp o memory c f)))

        off_frame : (x : ℕ) → x + 4 ≤ 1024 → (t.monitor - i.ram_base + x + 4 ≤ rounded t psp - i.ram_base - 32) ⊎ (rounded t psp - i.ram_base - 32 + 32 ≤ t.monitor - i.ram_base + x)
        off_frame x hi = ⊎_elim (λ y. inl (omega (arith, y, hi))) (λ y. inr (omega (arith, y))) (apart_from_block i t (rounded t psp - i.ram_base - 32) (rounded t psp) c.placed new_frame)

        older : (x : ℕ) → 20 ≤ x → x + 4 ≤ 544 → (x + 4 ≤ 16 * length m.saved + 32) ⊎ (16 * length m.saved + 48 ≤ x) → block_word i t new x ≡ block_word i t memory x
        older x lo hi out =
            h.others 4 (t.monitor - i.ram_base + x) (inr (omega (arith, lo))) (⊎_elim (λ y. inl (omega (arith, y))) (λ y. inr (omega (arith, y))) out) (off_frame x (omega (arith, hi)))
            ∙ in_block x hi

        saved_word : (x y v : ℕ) → 16 * length m.saved + x ≡ y → read 4 (t.monitor - i.ram_base + (16 * length m.saved + x)) new ≡ v → block_word i t new y ≡ v
        saved_word x y v e w = ap (λ z. read 4 (t.monitor - i.ram_base + z) new) (sym e) ∙ w

        -- the caller's words in its frame
        arg : (x : ℕ) → x + 4 ≤ 24 → read 4 (o + x) raised ≡ read 4 (o + x) memory
        arg x hi = up.reads 4 (o + x) (inl (omega (arith, hi)))

        room : rounded t psp - 32 - i.ram_base + 4 * 8 ≤ length (moved_on i psp memory)
        room = let l = ap (λ n. length n) (sym raised_is) ∙ up.as_long ∙ c.as_long in let q : length (moved_on i psp memory) ≡ i.ram_size = ap (λ n. length n) moved_is ∙ ap (λ n. length n) (sym raised_is) ∙ up.as_long ∙ c.as_long in let r = new_room in let e = fo_is in omega (arith, q, r, e)

        at_after : (k v : ℕ) → k < 8 → slice_index (callee_frame i t stub m psp memory g) k ≡ v → v < 2 ^ 32 → read 4 (rounded t psp - i.ram_base - 32 + 4 * k) after_enter ≡ v
        at_after k v lt e small =
            (let q : rounded t psp - i.ram_base - 32 + 4 * k ≡ rounded t psp - 32 - i.ram_base + 4 * k = (let e = fo_is in omega (arith, e)) in ap (λ a. read 4 a after_enter) q)
            ∙ read_all 4 (rounded t psp - 32 - i.ram_base) (callee_frame i t stub m psp memory g) (moved_on i psp memory) k lt room
            ∙ ap (λ v. cut 4 v) e ∙ cut_small 4 v (omega (arith, small))

        at_link : read 4 (rounded t psp - i.ram_base - 32 + 4 * 5) after_enter ≡ k.stub_entry
        at_link =
            (let q : rounded t psp - i.ram_base - 32 + 4 * 5 ≡ rounded t psp - 32 - i.ram_base + 4 * 5 = (let e = fo_is in omega (arith, e)) in ap (λ a. read 4 a after_enter) q)
            ∙ read_all 4 (rounded t psp - 32 - i.ram_base) (callee_frame i t stub m psp memory g) (moved_on i psp memory) 5 (omega arith) room
            ∙ cut_four (stub + 1)

        words : (k : ℕ) → k < 8 → read 4 (rounded t psp - i.ram_base - 32 + 4 * k) new ≡ read 4 (rounded t psp - i.ram_base - 32 + 4 * k) after_enter
        words zero l = h.r0_is ∙ arg 0 (omega arith) ∙ sym (stacked_is i psp o 0 memory c.at (omega arith)) ∙ sym (at_after 0 (word i t stub m psp memory 0) (omega arith) refl (word_small 0 (omega arith)))
        words (suc zero) l = h.r1_is ∙ arg 4 (omega arith) ∙ sym (stacked_is i psp o 1 memory c.at (omega arith)) ∙ sym (at_after 1 (word i t stub m psp memory 1) (omega arith) refl (word_small 1 (omega arith)))
        words (suc (suc zero)) l = h.r2_is ∙ arg 8 (omega arith) ∙ sym (stacked_is i psp o 2 memory c.at (omega arith)) ∙ sym (at_after 2 (word i t stub m psp memory 2) (omega arith) refl (word_small 2 (omega arith)))
        words (suc (suc (suc zero))) l = h.r3_is ∙ arg 12 (omega arith) ∙ sym (stacked_is i psp o 3 memory c.at (omega arith)) ∙ sym (at_after 3 (word i t stub m psp memory 3) (omega arith) refl (word_small 3 (omega arith)))
        words (suc (suc (suc (suc zero)))) l = h.r12_is ∙ sym (at_after 4 0 (omega arith) refl (omega arith))
        words (suc (suc (suc (suc (suc zero))))) l = h.link_is ∙ sym at_link
        words (suc (suc (suc (suc (suc (suc zero)))))) l = h.return_is ∙ sym (at_after 6 (g.entry - 1) (omega arith) entry_even (let x = wanted_small in omega (arith, x)))
        words (suc (suc (suc (suc (suc (suc (suc zero))))))) l = h.status_is ∙ sym (at_after 7 (2 ^ 24) (omega arith) refl (omega arith))
        words (suc (suc (suc (suc (suc (suc (suc (suc k)))))))) l = absurd (omega (arith, l))

        other_bytes : (x : ℕ) → (x + 1 ≤ t.monitor - i.ram_base) ⊎ (t.monitor - i.ram_base + 1024 ≤ x) → (x + 1 ≤ rounded t psp - i.ram_base - 32) ⊎ (rounded t psp - i.ram_base - 32 + 4 * 8 ≤ x) → read 1 x new ≡ read 1 x after_enter
        other_bytes x u v =
            h.others 1 x (⊎_elim (λ y. inl y) (λ y. inr (omega (arith, y))) u) (⊎_elim (λ y. inl (omega (arith, y))) (λ y. inr (let w = shallow in omega (arith, y, w))) u) (⊎_elim (λ y. inl y) (λ y. inr (omega (arith, y))) v)
            ∙ ap (λ n. read 1 x n) (raised_is ∙ sym moved_is)
            ∙ sym (⊎_elim (λ y. read_below_all 1 x 4 (rounded t psp - 32 - i.ram_base) (callee_frame i t stub m psp memory g) (moved_on i psp memory) (let e = fo_is in omega (arith, y, e))) (λ y. read_above_all 1 x 4 (rounded t psp - 32 - i.ram_base) (callee_frame i t stub m psp memory g) (moved_on i psp memory) (let e = fo_is in omega (arith, y, e))) v)

        entered_ram : LeavesRam i t m (entered m g.compartment (rounded t psp) psp) after_enter new
        entered_ram = record {
          is_block = record {
            current_is = h.current_is;
            top_is = h.top_is;
            depth_is = h.depth ∙ (let y : length m.saved + 1 ≡ suc (length m.saved) = omega arith in y);
            loan_count_is = h.loans ∙ in_block 12 (omega arith) ∙ c.is_block.loan_count_is;
            mark_is = h.mark_is ∙ in_block 12 (omega arith) ∙ c.is_block.loan_count_is;
            has_saved = (
              record {
                psp = saved_word 32 (32 + 16 * length m.saved) psp (omega arith) h.saved_psp;
                current = saved_word 36 (32 + 16 * length m.saved + 4) m.current (omega arith) (h.saved_current ∙ in_block 0 (omega arith) ∙ c.is_block.current_is);
                top = saved_word 40 (32 + 16 * length m.saved + 8) m.top (omega arith) (h.saved_top ∙ in_block 4 (omega arith) ∙ c.is_block.top_is);
                mark = saved_word 44 (32 + 16 * length m.saved + 12) m.mark (omega arith) (h.saved_mark ∙ in_block 16 (omega arith) ∙ c.is_block.mark_is);
              },
              saved_stay i t memory new m.saved (λ x lo hi. older x (omega (arith, lo)) (let w = shallow in omega (arith, hi, w)) (inl (omega (arith, hi)))) c.is_block.has_saved,
            );
            has_loans = loans_stay i t memory new m.loans (λ x lo hi. older x (omega (arith, lo)) (let w = c.invariant.inv.orderly.few in omega (arith, hi, w)) (inr (let w = shallow in omega (arith, lo, w)))) c.is_block.has_loans;
          };
          is_memory = memory_by i t (rounded t psp - i.ram_base - 32) 8 new after_enter (h.as_long ∙ ap (λ n. length n) (raised_is ∙ sym moved_is) ∙ sym (length-write_all 4 (rounded t psp - 32 - i.ram_base) (callee_frame i t stub m psp memory g) (moved_on i psp memory))) words other_bytes;
          words_stay = λ x. absurd (let n : suc (length m.saved) ≡ length m.saved = ap (λ (z : MonitorBlock). length z.saved) x in omega (arith, n));
        }

      pub enter_goes : (x : Core) (raised : List ℕ) → x.sp ≡ t.monitor + block_size → x.other_sp ≡ rounded t psp - 32 → x.protection.unprivileged ≡ true → x.protection.mpu.control ≡ 5 → x.protection.mpu.regions ≡ regions_for i t g.compartment (rounded t psp) → x.status ≡ s.status →
          raised ≡ write 4 (o + 24) (ret + 2) memory → HasEntered i t k.stub_entry psp o (rounded t psp - i.ram_base - 32) (length m.saved) g.compartment (rounded t psp) (g.entry - 1) raised x.ram →
          Q (enter_at i t stub m psp memory (location i (word i t stub m psp memory return_place))) (AtReturn x)
      enter_goes x raised e1 e2 e3 e4 e5 e6 w h =
          subst (λ y. Q y (AtReturn x)) (sym outcome) (
            x,
            refl,
            record {
              msp = e1;
              psp_is = e2;
              unprivileged = e3;
              control = e4;
              regions = e5;
              unit_stays = λ y. absurd (let a = z.below in let b = c.at in let d = (frame i t stub s m psp o memory c f).high in omega (arith, a, b, d, y));
              no_fault = ap (λ u. u.cfsr) e6 ∙ c.invariant.inv.no_fault;
              enabled = ap (λ u. u.shcsr) e6;
              ram = entered_ram raised x.ram w h;
              offset = rounded t psp - i.ram_base - 32;
              at = let q = fo_is in omega (arith, q);
              frame = new_frame;
              may_load = λ a lo hi. let y = z.above in let w = z.below in let v = c.at in let l = (frame i t stub s m psp o memory c f).high in let g = top_before i t stub s m psp o memory c in ForStack (omega (arith, lo, y), omega (arith, hi, y, w, v, l, g));
              current_in = ie.compartment_in;
              saved = 0;
              is_top = (z.eighths, z.at, (let a = z.some in omega (arith, a)), (let a = z.few in omega (arith, a)));
            },
          )

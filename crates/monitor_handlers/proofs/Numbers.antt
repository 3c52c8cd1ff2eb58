-- The handler's list, number by number: it comes to its outcome.
use Rattle.std.proofs.Common.{◌≡◌, ℕ, ◌+◌, ◌-◌, ◌%◌, ◌<◌, ◌≤◌, true, List, [], ◌∷◌, length, Some, refl, sym, ap, ap₂, ◌∙◌, subst, arith}
use Rattle.base_words.specs.Bytes.{read}
use Rattle.machine_protection.specs.declared.TheConstants.{MPU_CTRL}
use Rattle.machine_devices.specs.declared.image.Image.{Image}
use Rattle.machine_devices.specs.Rules.{block_size}
use Rattle.machine_bus.specs.Locations.{InFlash, location}
use Rattle.machine_model.specs.declared.state.ProtectionState.{ProtectionState}
use Rattle.machine_model.specs.State.{State, by_mpu}
use Rattle.monitor_steps.specs.Steps.{PrivilegedSteps}
use Rattle.monitor_steps.specs.Core.{Core}
use Rattle.monitor_steps.specs.Effect.{Outcome as PrivilegedOutcome, Halted}
use Rattle.monitor_steps.proofs.Within.{GivesWithin, const_within, at_within, more_within, yes_within, no_within, next_within}
use Rattle.monitor_model.specs.declared.tables.TargetRecord.{TargetRecord}
use Rattle.monitor_model.specs.declared.tables.Tables.{Tables}
use Rattle.monitor_model.specs.Records.{site_at, targets_of, last_with_entry, lend_size}
use Rattle.monitor_model.specs.Regions.{regions_for}
use Rattle.monitor_model.specs.Block.{Saved, MonitorBlock}
use Rattle.monitor_model.specs.BlockWords.{top}
use Rattle.monitor_model.specs.Confined.{IsSvc}
use Rattle.monitor_model.specs.Outcomes.{Outcome, Halts, return_place}
use Rattle.monitor_model.specs.SvcOutcome.{word, enter_at, leave_to, lend, unlend_to, by_number, svc_outcome}
use Rattle.monitor_program.specs.Svc.{svc}
use Rattle.monitor_program.specs.Constants.{Constants, constants_with}
use Rattle.monitor_laws.proofs.Off.{core, with_unit}
use Rattle.monitor_laws.proofs.Fetched.{UnitLaws}
use Rattle.monitor_laws.proofs.Opened.{FrameIsOpen, HandlerPremises}
use Rattle.monitor_laws.proofs.HandlerRule.{HandlerRule, thread_premises}
use Rattle.monitor_laws.proofs.SvcNumber.{Called, by_number as listed, number_within, above_within, three_within}
use Rattle.monitor_laws.proofs.Lend.{two_within}
use Rattle.monitor_laws.proofs.Leave.{leave_within, leave_last_within, with_regions}
use Rattle.monitor_handlers.proofs.Enter.{enter_within, Asks}
use Rattle.monitor_handlers.proofs.Targets.{target_is}
use Rattle.monitor_handlers.proofs.Calling.{Calling, A, off, is_off, good_on, good_again, halted, frame, top_below, top_word, top_word_below, top_before, word_before, frame_before, outcome_open, outcome_shut, unlend_halts, unlend_goes, address, number, live, address_is, number_is, lend_halts, lend_goes, installed_at, offset_low}
use Rattle.monitor_handlers.proofs.Crossing.{first_regions, saved_is, back_frame, here_frame, leaving, leave_goes, no_site_halts, no_target_halts, no_stack_halts, enter_goes}
use Rattle.monitor_handlers.proofs.Mode.{IsGood, good_while_off}

module _ (i : Image) (t : Tables) (stub : ℕ) (s : State) (m : MonitorBlock) (psp o : ℕ) (memory : List ℕ) (c : Calling i t s m psp o memory) where
  abbrev k : Constants
  k = constants_with stub t

  abbrev pub premises : HandlerPremises
  premises = thread_premises (installed_at c stub) s (IsGood i) (good_while_off i c.placed.rules)

  abbrev pub W : ℕ → PrivilegedSteps → List PrivilegedSteps → Core → (PrivilegedOutcome → Type 0) → Type 0
  W n l ks d Q = GivesWithin by_mpu i (IsGood i) (HandlerRule i t s) n l ks d Q

  abbrev pub Q : Outcome → PrivilegedOutcome → Type 0
  Q h z = A i t stub s m psp o memory c h z

  abbrev here : ProtectionState
  here = off i t stub s m psp o memory c

  abbrev msp : ℕ
  msp = t.monitor + block_size

  -- where the number is known
  abbrev pub at_number : (ret n : ℕ) → Core
  at_number ret n = core msp psp here s.status memory psp k.block k.stack m.top ret n MPU_CTRL 0

  abbrev pub numbers : PrivilegedSteps
  numbers = listed premises

  module _ (unit : UnitLaws) (f : FrameIsOpen i t o memory) where
    again : IsGood i (with_unit here (record here.mpu { control = 5 }))
    again = good_again i t stub s m psp o memory c unit

    -- ---- above 3

    pub above : (ret n : ℕ) → 3 < n → W 25 numbers [] (at_number ret n) (Q (Halts 1))
    above ret n h = above_within premises n h (λ d r. halted i t stub s m psp o memory c 1 d r)

    -- ---- 3, unlend

    pub three : (ret : ℕ) → W 30 numbers [] (at_number ret 3) (Q (unlend_to i t stub m psp memory m.loans))
    three ret =
        three_within premises (is_off i t stub s m psp o memory c) again
        (λ d r h. unlend_halts i t stub s m psp o memory c m.loans refl d r h)
        (λ q1 new v4 eq ne w l. unlend_goes i t stub s m psp o memory c m.loans refl f q1 new psp k.block k.stack m.top v4 1 MPU_CTRL 5 eq ne w)

    -- ---- 2, lend

    pub two : (ret : ℕ) → W 125 numbers [] (at_number ret 2) (Q (lend i t stub m psp memory))
    two ret =
        two_within premises o m.top (live i t stub s m psp o memory c) (address i t stub s m psp o memory c) (number i t stub s m psp o memory c)
        (is_off i t stub s m psp o memory c) again c.at c.aligned f (sym (top_word i t stub s m psp o memory c)) (top_below i t stub s m psp o memory c) (top_before i t stub s m psp o memory c) (address_is i t stub s m psp o memory c) (number_is i t stub s m psp o memory c) c.is_block.loan_count_is c.invariant.inv.orderly.few
        (λ d r refused. lend_halts i t stub s m psp o memory c d r refused)
        (λ q1 new eq may w l. lend_goes i t stub s m psp o memory c f q1 new psp k.block (address i t stub s m psp o memory c + lend_size t (number i t stub s m psp o memory c)) 1 (address i t stub s m psp o memory c) (number i t stub s m psp o memory c) MPU_CTRL 5 eq may w)

    -- ---- 1, leave

    one_by : (ret : ℕ) (l : List Saved) → IsSvc i t 1 s → m.saved ≡ l → W 208 numbers [] (at_number ret 1) (Q (leave_to i t stub m psp memory l))
    one_by ret [] is_svc e =
        more_within
        (const_within (no_within refl (next_within (const_within (no_within refl (next_within (const_within (no_within refl (next_within (const_within (yes_within refl
        (leave_last_within premises (is_off i t stub s m psp o memory c) (c.is_block.depth_is ∙ ap (λ l. length l) e) (λ d r. halted i t stub s m psp o memory c 0 d r))))))))))))) (omega arith)
    one_by ret (e ∷ es) is_svc is =
        more_within
        (const_within (no_within refl (next_within (const_within (no_within refl (next_within (const_within (no_within refl (next_within (const_within (yes_within refl
        (leave_within premises o (length es) (e.psp - i.ram_base) e.current e.top e.mark (length es) c.at (is_off i t stub s m psp o memory c)
        (leaving i t stub s m psp o memory c e es is) (back_frame i t stub s m psp o memory c e es is) (here_frame i t stub s m psp o memory c e es is f) (frame_before i t stub s m psp o memory c f) (saved_is i t stub s m psp o memory c e es is).is_top (saved_is i t stub s m psp o memory c e es is).current_in
        (first_regions i t stub s m psp o memory c)
        (λ q1 e1 r. good_on i t stub s m psp o memory c unit (with_unit q1 (record q1.mpu { control = 5 })) e.current e.top (saved_is i t stub s m psp o memory c e es is).current_in (ap (λ q. q.handler) e1) refl r)
        (λ q1 new b0 b2 b4 b6 b7 e1 r h. leave_goes i t stub s m psp o memory c e es is is_svc q1 new b0 k.block b2 e.top b4 e.current b6 b7 (with_regions premises e.current (saved_is i t stub s m psp o memory c e es is).is_top.0 here.mpu) e1 r h))))))))))))) (omega arith)

    pub one : (ret : ℕ) → IsSvc i t 1 s → W 208 numbers [] (at_number ret 1) (Q (leave_to i t stub m psp memory m.saved))
    one ret is_svc = one_by ret m.saved is_svc refl

    -- ---- 0, enter, where the site's number stands in flash

    on : (q : ProtectionState) (cur top : ℕ) → cur < length t.comps → q.handler ≡ true → q.mpu.regions ≡ regions_for i t cur top → IsGood i (with_unit q (record q.mpu { control = 5 }))
    on q cur top lt h r = good_on i t stub s m psp o memory c unit (with_unit q (record q.mpu { control = 5 })) cur top lt h refl r

    shallow : length m.saved < 8
    shallow = let x = c.invariant.inv.orderly.is_top.3 in let y = c.invariant.inv.orderly.is_top.2 in omega (arith, x, y)

    module _ (ret ro : ℕ) (return_is : read 4 (o + 24) memory ≡ ret) (return_at : ret ≡ i.flash_base + ro) (return_even : ro % 2 ≡ 0) (return_room : ro + 2 ≤ length i.flash) (at_flash : location i ret ≡ InFlash ro) where
      asks : Asks premises on msp psp s.status o ro m.top (length m.saved) ret here memory
      asks = record {
        at = c.at;
        off = is_off i t stub s m psp o memory c;
        first = first_regions i t stub s m psp o memory c;
        frame = frame i t stub s m psp o memory c f;
        below = frame_before i t stub s m psp o memory c f;
        top_is = top_word i t stub s m psp o memory c;
        depth = c.is_block.depth_is;
        shallow = shallow;
        as_long = c.as_long;
        return_at = return_at;
        return_even = return_even;
        return_room = return_room;
        return_is = return_is;
        sites = c.sites;
      }

      wanted_is : (g : TargetRecord) → last_with_entry (read 4 (o + 16) memory) (targets_of t (site_at t (read 2 ro i.flash))) ≡ Some g → g.entry ≡ read 4 (o + 16) memory
      wanted_is g e = (target_is t (site_at t (read 2 ro i.flash)) (read 4 (o + 16) memory) g c.placed.targets e).0

      pub enters : W 1348 numbers [] (at_number ret 0) (Q (enter_at i t stub m psp memory (location i (word i t stub m psp memory return_place))))
      enters =
          const_within (no_within refl (next_within (const_within (no_within refl (next_within (const_within (yes_within refl
          (enter_within premises on msp psp s.status o ro m.top (length m.saved) ret here memory asks
          (λ d r refused. no_site_halts i t stub s m psp o memory c ret ro return_is at_flash d r refused)
          (λ d r lt re e. no_target_halts i t stub s m psp o memory c ret ro return_is at_flash d r lt re e)
          (λ d g r lt re e z. no_stack_halts i t stub s m psp o memory c ret ro return_is at_flash d g r lt re e z)
          (λ x g lt re e ie z h. enter_goes i t stub s m psp o memory c ret ro return_is at_flash g lt re e ie (wanted_is g e) z f x h.raised h.msp_is h.psp_is (h.unprivileged ∙ c.invariant.inv.unprivileged) h.control h.regions h.status h.raised_is h.left)))))))))

  -- ---- from the handler's first instruction

  abbrev pub at_first : (a0 a1 a2 a3 a4 a5 a6 a7 : ℕ) → Core
  at_first a0 a1 a2 a3 a4 a5 a6 a7 = core msp psp (record s.protection { handler = true }) s.status memory a0 a1 a2 a3 a4 a5 a6 a7

  pub numbered : (b ret n : ℕ) (a0 a1 a2 a3 a4 a5 a6 a7 : ℕ) → read 4 (o + 24) memory ≡ ret → Called i ret n → (FrameIsOpen i t o memory → W b numbers [] (at_number ret n) (Q (by_number i t stub m psp memory n))) →
      W (54 + b) (svc k) [] (at_first a0 a1 a2 a3 a4 a5 a6 a7) (Q (svc_outcome i t stub m psp memory n))
  numbered b ret n a0 a1 a2 a3 a4 a5 a6 a7 er called go =
      number_within premises o n refl refl c.at c.aligned (offset_low i t stub s m psp o memory c) (top_word_below i t stub s m psp o memory c) (word_before i t stub s m psp o memory c) (subst (λ r. Called i r n) (sym er) called)
      (λ d r shut. subst (λ h. Q h (Halted 4 d)) (sym (outcome_shut i t stub s m psp o memory c n shut)) (halted i t stub s m psp o memory c 4 d r))
      (λ q1 eq off1 f.
      at_within (ap (λ q. core msp psp q s.status memory psp k.block k.stack (read 4 (t.monitor - i.ram_base + 4) memory) (read 4 (o + 24) memory) n MPU_CTRL 0) eq ∙ ap₂ (λ x y. core msp psp here s.status memory psp k.block k.stack x y n MPU_CTRL 0) (top_word i t stub s m psp o memory c) er)
      (subst (λ h. W b numbers [] (at_number ret n) (Q h)) (sym (outcome_open i t stub s m psp o memory c n f)) (go f)))

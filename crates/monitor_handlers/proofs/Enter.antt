-- All of enter: the site, the target, the new TOP, the caller's words, the callee's frame, and the regions of its compartment.
use Rattle.std.proofs.Common.{◌≡◌, ◌≢◌, ℕ, ◌+◌, ◌-◌, ◌*◌, ◌/◌, ◌%◌, ◌^◌, ◌<◌, ◌≤◌, ◌⊎◌, inl, inr, ⊎_elim, true, List, ◌∷◌, length, Option, Some, None, refl, sym, ap, ◌∙◌, arith}
use Rattle.std.proofs.lemmas.Bool.{cases_lt}
use Rattle.std.proofs.Math.Nat.{div-mul-le_self, mod_self}
use Rattle.base_words.specs.Bytes.{read, write}
use Rattle.machine_protection.specs.Configured.{written}
use Rattle.machine_devices.specs.declared.image.Image.{Image}
use Rattle.machine_model.specs.declared.state.ProtectionState.{ProtectionState}
use Rattle.machine_model.specs.declared.state.FaultStatus.{FaultStatus}
use Rattle.machine_model.specs.State.{by_mpu}
use Rattle.monitor_steps.specs.Steps.{PrivilegedSteps, ◌▸◌}
use Rattle.monitor_steps.specs.Core.{Core}
use Rattle.monitor_steps.specs.Effect.{Outcome, Halted, AtReturn}
use Rattle.monitor_steps.proofs.Within.{GivesWithin, at_within, more_within}
use Rattle.monitor_model.specs.declared.tables.TargetRecord.{TargetRecord}
use Rattle.monitor_model.specs.declared.tables.Tables.{Tables}
use Rattle.monitor_model.specs.Records.{compartment_at, site_at, targets_of, last_with_entry, stack_end, eighth, rounded}
use Rattle.monitor_model.specs.Regions.{regions_for}
use Rattle.monitor_model.specs.Placed.{Placed, IsEntry}
use Rattle.monitor_program.specs.Constants.{Constants, constants_with}
use Rattle.monitor_program.specs.Svc.{enter, raise, save, frame as frame_steps, entered, rounded as rounded_steps, target}
use Rattle.monitor_program.specs.Opening.{tables_of, closed_up}
use Rattle.monitor_laws.proofs.Off.{core, with_unit, IsOff}
use Rattle.monitor_laws.proofs.Written.{tables_within, open_stack}
use Rattle.monitor_laws.proofs.Tables.{shaped, has_compartment, record_at, top_is, unit_is, size_of_stack}
use Rattle.monitor_laws.proofs.Placement.{writable}
use Rattle.monitor_laws.proofs.Unlend.{closed_within}
use Rattle.monitor_laws.proofs.HandlerWords.{changed_write, InStack, apart_from_block}
use Rattle.monitor_laws.proofs.Leave.{HasFirstRegions}
use Rattle.monitor_laws.proofs.EnterSite.{site_within}
use Rattle.monitor_laws.proofs.EnterTarget.{chosen, target_within}
use Rattle.monitor_laws.proofs.EnterRounded.{rounded_within}
use Rattle.monitor_laws.proofs.EnterSave.{Saves, Counted, raise_within, save_within, entered_within}
use Rattle.monitor_laws.proofs.EnterFrame.{Framed, frame_within}
use Rattle.monitor_handlers.proofs.Targets.{SiteFits, compartment_of, target_is, to, site_targets, site_chosen}
use Rattle.monitor_laws.proofs.Opened.{HandlerPremises}
use Rattle.monitor_laws.specs.RegionsWritten.{Writable}

-- what enter leaves of RAM in which the return address has been raised
pub record HasEntered (i : Image) (t : Tables) (link psp o fo d current new_top entry : ℕ) (old new : List ℕ) : Type 0 where
  pub current_is : read 4 (t.monitor - i.ram_base + 0) new ≡ current
  pub top_is : read 4 (t.monitor - i.ram_base + 4) new ≡ new_top
  pub depth : read 4 (t.monitor - i.ram_base + 8) new ≡ d + 1
  pub loans : read 4 (t.monitor - i.ram_base + 12) new ≡ read 4 (t.monitor - i.ram_base + 12) old
  pub mark_is : read 4 (t.monitor - i.ram_base + 16) new ≡ read 4 (t.monitor - i.ram_base + 12) old
  pub saved_psp : read 4 (t.monitor - i.ram_base + (16 * d + 32)) new ≡ psp
  pub saved_current : read 4 (t.monitor - i.ram_base + (16 * d + 36)) new ≡ read 4 (t.monitor - i.ram_base + 0) old
  pub saved_top : read 4 (t.monitor - i.ram_base + (16 * d + 40)) new ≡ read 4 (t.monitor - i.ram_base + 4) old
  pub saved_mark : read 4 (t.monitor - i.ram_base + (16 * d + 44)) new ≡ read 4 (t.monitor - i.ram_base + 16) old
  pub r0_is : read 4 (fo + 0) new ≡ read 4 (o + 0) old
  pub r1_is : read 4 (fo + 4) new ≡ read 4 (o + 4) old
  pub r2_is : read 4 (fo + 8) new ≡ read 4 (o + 8) old
  pub r3_is : read 4 (fo + 12) new ≡ read 4 (o + 12) old
  pub r12_is : read 4 (fo + 16) new ≡ 0
  pub link_is : read 4 (fo + 20) new ≡ link
  pub return_is : read 4 (fo + 24) new ≡ entry
  pub status_is : read 4 (fo + 28) new ≡ 0x01000000
  pub others : (w a : ℕ) → (a + w ≤ t.monitor - i.ram_base) ⊎ (t.monitor - i.ram_base + 20 ≤ a) → (a + w ≤ t.monitor - i.ram_base + (16 * d + 32)) ⊎ (t.monitor - i.ram_base + (16 * d + 48) ≤ a) → (a + w ≤ fo) ⊎ (fo + 32 ≤ a) → read w a new ≡ read w a old
  pub as_long : length new ≡ length old

module _ (i : Image) (t : Tables) (p : Placed i t) where
  abbrev b : ℕ
  b = t.monitor - i.ram_base

  entered_done : (link psp o fo d current new_top entry top : ℕ) (m1 m2 m3 m4 : List ℕ) → InStack i t o top → InStack i t fo top → fo + 32 ≤ o → d < 8 → Saves i t p psp d m1 m2 → Framed link o fo entry m2 m3 → Counted i t p d current new_top m3 m4 → HasEntered i t link psp o fo d current new_top entry m1 m4
  entered_done link psp o fo d current new_top entry top m1 m2 m3 m4 io jo apart few s r c = record {
    current_is = c.current_is;
    top_is = c.top_is;
    depth = c.depth;
    loans = c.loans ∙ loans1;
    mark_is = c.mark_is ∙ loans1;
    saved_psp = entry4 (b + (16 * d + 32)) (omega arith) (omega (arith, few)) ∙ s.psp_is;
    saved_current = entry4 (b + (16 * d + 36)) (omega arith) (omega (arith, few)) ∙ s.current_is;
    saved_top = entry4 (b + (16 * d + 40)) (omega arith) (omega (arith, few)) ∙ s.top_is;
    saved_mark = entry4 (b + (16 * d + 44)) (omega arith) (omega (arith, few)) ∙ s.mark_is;
    r0_is = up4 (fo + 0) (omega arith) (omega arith) ∙ r.r0_is ∙ low2 (o + 0) (omega arith) (omega arith);
    r1_is = up4 (fo + 4) (omega arith) (omega arith) ∙ r.r1_is ∙ low2 (o + 4) (omega arith) (omega arith);
    r2_is = up4 (fo + 8) (omega arith) (omega arith) ∙ r.r2_is ∙ low2 (o + 8) (omega arith) (omega arith);
    r3_is = up4 (fo + 12) (omega arith) (omega arith) ∙ r.r3_is ∙ low2 (o + 12) (omega arith) (omega arith);
    r12_is = up4 (fo + 16) (omega arith) (omega arith) ∙ r.r12_is;
    link_is = up4 (fo + 20) (omega arith) (omega arith) ∙ r.link_is;
    return_is = up4 (fo + 24) (omega arith) (omega arith) ∙ r.return_is;
    status_is = up4 (fo + 28) (omega arith) (omega arith) ∙ r.status_is;
    others = λ w a h1 h2 h3. c.changed.reads w a h1 ∙ r.changed.reads w a h3 ∙ s.changed.reads w a h2;
    as_long = c.changed.as_long ∙ r.changed.as_long ∙ s.changed.as_long;
  }
    where
      -- the frames are off the block
      in3 : (x : ℕ) → t.monitor - i.ram_base ≤ x → x + 4 ≤ t.monitor - i.ram_base + 1024 → read 4 x m3 ≡ read 4 x m2
      in3 x lo hi = r.changed.reads 4 x (⊎_elim (λ y. inl (omega (arith, y, hi))) (λ y. inr (omega (arith, y, lo))) (apart_from_block i t fo top p jo))

      up4 : (x : ℕ) → fo ≤ x → x + 4 ≤ fo + 32 → read 4 x m4 ≡ read 4 x m3
      up4 x lo hi = c.changed.reads 4 x (⊎_elim (λ y. inr (omega (arith, y, lo))) (λ y. inl (omega (arith, y, hi))) (apart_from_block i t fo top p jo))

      low2 : (x : ℕ) → o ≤ x → x + 4 ≤ o + 32 → read 4 x m2 ≡ read 4 x m1
      low2 x lo hi = s.changed.reads 4 x (⊎_elim (λ y. inr (omega (arith, y, lo, few))) (λ y. inl (omega (arith, y, hi))) (apart_from_block i t o top p io))

      loans1 : read 4 (t.monitor - i.ram_base + 12) m3 ≡ read 4 (t.monitor - i.ram_base + 12) m1
      loans1 = in3 (t.monitor - i.ram_base + 12) (omega arith) (omega arith) ∙ s.changed.reads 4 (t.monitor - i.ram_base + 12) (inl (omega arith))

      entry4 : (x : ℕ) → t.monitor - i.ram_base + 20 ≤ x → x + 4 ≤ t.monitor - i.ram_base + 1024 → read 4 x m4 ≡ read 4 x m2
      entry4 x lo hi = c.changed.reads 4 x (inr lo) ∙ in3 x (omega (arith, lo)) hi

  -- ---- the new TOP

  four_times : (n e : ℕ) → e % 4 ≡ 0 → (n * e) % 4 ≡ 0
  four_times n e h =
      let q : ℕ = e / 4 in
      let z : e ≡ 4 * q = omega (arith, h) in
      let y : n * e ≡ 4 * (n * q) = ap (λ e. n * e) z ∙ grind arith in
      omega (arith, y)

  eighth_four : eighth t % 4 ≡ 0
  eighth_four =
      let z = (size_of_stack p).eighths in
      let a = (size_of_stack p).aligned t.stack.size (mod_self t.stack.size) in
      omega (arith, z, a)

  -- of a frame in the stack with some eighth below it: where the new TOP lies
  pub record NewTop (psp : ℕ) : Type 0 where
    pub eighths : ℕ
    pub at : rounded t psp ≡ t.stack.base + eighths * eighth t
    pub some : 1 ≤ eighths
    pub few : eighths ≤ 7
    pub above : t.stack.base + 64 ≤ rounded t psp
    pub below : rounded t psp ≤ psp
    pub aligned : rounded t psp % 4 ≡ 0

  pub new_top : (psp : ℕ) → t.stack.base ≤ psp → psp + 32 ≤ stack_end t → 0 < (psp - t.stack.base) / eighth t → NewTop psp
  new_top psp lo hi pos = record {
    eighths = (psp - t.stack.base) / eighth t;
    at = refl;
    some = pos;
    few = fewer ((psp - t.stack.base) / eighth t) at_most;
    above = let a = once ((psp - t.stack.base) / eighth t) pos in let l = (size_of_stack p).least in omega (arith, a, l);
    below = let a = at_most in omega (arith, a, lo);
    aligned = let a = four_times ((psp - t.stack.base) / eighth t) (eighth t) eighth_four in let c = (size_of_stack p).aligned t.stack.base (ap (λ z. t.stack.base % z) p.stack_size ∙ ap (λ b. b % i.stack_size) p.stack_base ∙ p.stack.aligned) in omega (arith, a, c);
  }
    where
      at_most : (psp - t.stack.base) / eighth t * eighth t ≤ psp - t.stack.base
      at_most = div-mul-le_self (psp - t.stack.base) (eighth t)

      once : (n : ℕ) → 0 < n → eighth t ≤ n * eighth t
      once n h = grind (arith, h)

      eight_times : (n : ℕ) → 8 ≤ n → 8 * eighth t ≤ n * eighth t
      eight_times n h = grind (arith, h)

      fewer : (n : ℕ) → n * eighth t ≤ psp - t.stack.base → n ≤ 7
      fewer n h = ⊎_elim (λ x. omega (arith, x)) (λ x. absurd (let y = eight_times n x in let z = (size_of_stack p).eighths in omega (arith, y, z, h, hi, lo))) (cases_lt n 8)

module _ (premises : HandlerPremises)
    (on : (q : ProtectionState) (cur top : ℕ) → cur < length premises.installed.tables.comps → q.handler ≡ true → q.mpu.regions ≡ regions_for premises.installed.image premises.installed.tables cur top → premises.Good (with_unit q (record q.mpu { control = 5 }))) where
  open premises use {installed, installed.{image as i, tables as t, placed as p, stub}, Good, Allowed, entry_top, handles, good}

  abbrev k : Constants
  k = constants_with stub t

  abbrev W : ℕ → PrivilegedSteps → List PrivilegedSteps → Core → (Outcome → Type 0) → Type 0
  W n s ks c Q = GivesWithin by_mpu i Good Allowed n s ks c Q

  abbrev here : ℕ
  here = t.monitor - i.ram_base

  module _ (msp psp : ℕ) (u : FaultStatus) where
    -- the core at the exception return
    pub record EndsEnter (q : ProtectionState) (o d ret : ℕ) (g : TargetRecord) (m : List ℕ) (c : Core) : Type 0 where
      pub msp_is : c.sp ≡ msp
      pub psp_is : c.other_sp ≡ rounded t psp - 32
      pub unprivileged : c.protection.unprivileged ≡ q.unprivileged
      pub control : c.protection.mpu.control ≡ 5
      pub regions : c.protection.mpu.regions ≡ regions_for i t g.compartment (rounded t psp)
      pub status : c.status ≡ u
      pub raised : List ℕ
      pub raised_is : raised ≡ write 4 (o + 24) (ret + 2) m
      pub left : HasEntered i t k.stub_entry psp o (rounded t psp - i.ram_base - 32) d g.compartment (rounded t psp) (g.entry - 1) raised c.ram

    -- what enter asks for
    pub record Asks (o ro top d ret : ℕ) (q : ProtectionState) (m : List ℕ) : Type 0 where
      pub at : psp ≡ i.ram_base + o
      pub off : IsOff true q
      pub first : HasFirstRegions i t q.mpu
      pub frame : InStack i t o top
      pub below : i.ram_base + (o + 32) ≤ entry_top
      pub top_is : read 4 (here + 4) m ≡ top
      pub depth : read 4 (here + 8) m ≡ d
      pub shallow : d < 8
      pub as_long : length m ≡ i.ram_size
      pub return_at : ret ≡ i.flash_base + ro
      pub return_even : ro % 2 ≡ 0
      pub return_room : ro + 2 ≤ length i.flash
      pub return_is : read 4 (o + 24) m ≡ ret
      pub sites : (n : ℕ) → n < length t.sites → SiteFits t (site_at t n)

    module _ (o ro top d ret : ℕ) (q : ProtectionState) (m : List ℕ) (a : Asks o ro top d ret q m) where
      return_low : ret < 2 ^ 31
      return_low = let e = a.return_at in let r = a.return_room in let h = p.rules.flash_highest in let z = p.rules.flash_most in omega (arith, e, r, h, z)

      stack_inside : t.stack.base + t.stack.size ≤ i.ram_base + i.ram_size
      stack_inside = (writable installed).stack_inside.1

      base_inside : i.ram_base ≤ t.stack.base
      base_inside = (writable installed).stack_inside.0

      psp_low : t.stack.base ≤ psp
      psp_low = let e = a.at in let l = a.frame.low in omega (arith, e, l)

      psp_high : psp + 32 ≤ stack_end t
      psp_high = let e = a.at in let l = a.frame.high in let z = a.frame.ends in omega (arith, e, l, z)

      psp_end : psp ≤ stack_end t
      psp_end = let h = psp_high in omega (arith, h)

      psp_small : psp < 2 ^ 32
      psp_small = let h = psp_high in let b = stack_inside in let x = p.rules.ram_highest in let y = p.rules.ram_most in omega (arith, h, b, x, y)

      -- the callee's frame
      module _ (z : NewTop i t p psp) where
        fo_is : rounded t psp ≡ i.ram_base + (rounded t psp - i.ram_base - 32 + 32)
        fo_is = let x = z.above in let y = base_inside in omega (arith, x, y)

        fo_apart : rounded t psp - i.ram_base - 32 + 32 ≤ o
        fo_apart = let e = fo_is in let x = z.below in let y = a.at in omega (arith, e, x, y)

        fo_frame : InStack i t (rounded t psp - i.ram_base - 32) top
        fo_frame = record {
          aligned = let e = fo_is in let x = z.aligned in let r = p.rules.ram_aligned in omega (arith, e, x, r);
          low = let e = fo_is in let x = z.above in omega (arith, e, x);
          high = let e = fo_is in let x = z.below in let y = a.at in let h = a.frame.high in omega (arith, e, x, y, h);
          ends = a.frame.ends;
        }

        top_small : rounded t psp < 2 ^ 32
        top_small = let x = z.below in let y = psp_small in omega (arith, x, y)

        psp_new : i.ram_base + (rounded t psp - i.ram_base - 32) ≡ rounded t psp - 32
        psp_new = let e = fo_is in omega (arith, e)

        -- from the new TOP on
        rest_within : (g : TargetRecord) {ks : List PrivilegedSteps} {Q : Outcome → Type 0} {a4 a7 : ℕ} → IsEntry t g.entry g.compartment → g.entry ≡ read 4 (o + 16) m →
            ((c : Core) → EndsEnter q o d ret g m c → Q (AtReturn c)) →
            W 219 (raise ▸ save ▸ frame_steps k ▸ entered ▸ tables_of k ▸ closed_up) ks
            (core msp psp q u m psp k.block k.stack (rounded t psp) a4 g.compartment 0 a7) Q
        rest_within g {ks} {Q} is_entry wanted_is f =
            more_within
            (raise_within premises o top ret a.off a.at a.frame a.below a.top_is a.return_is return_low (λ v4 m1 w1 z1.
            save_within premises d a.off a.shallow (depth1 m1 w1) (z1 ∙ a.as_long) psp_small (λ y6 y7 m2 s.
            frame_within premises o (rounded t psp - i.ram_base - 32) top (g.entry - 1) (rounded t psp) a.off a.at a.frame a.below fo_frame fo_apart fo_is (top2 m1 m2 w1 s) (wanted2 m1 m2 w1 s) (omega arith) (s.changed.as_long ∙ z1 ∙ a.as_long) (λ m3 r.
            entered_within premises d g.compartment (rounded t psp) (rounded t psp - i.ram_base - 32) a.off a.shallow compartment_small top_small (r.changed.as_long ∙ s.changed.as_long ∙ z1 ∙ a.as_long) fo_frame.aligned (λ m4 z7 c.
            tables_within i p.rules k Good Allowed true handles.plain good g.compartment (record_at i t w stub g.compartment) z.eighths (rounded t psp) (compartment_at t g.compartment).code (compartment_at t g.compartment).slots a.off (shaped i t w stub) (has_compartment i t w stub g.compartment is_entry.compartment_in) compartment_small z.some most (top_is i t w stub z.eighths (rounded t psp) z.at) (λ q1 y2 v6 v7 e1 off1.
            closed_within premises off1 (on q1 g.compartment (rounded t psp) is_entry.compartment_in off1.mode (regions_are q1 e1)) (λ q2 e2.
            f _ (record {
              msp_is = refl;
              psp_is = psp_new;
              unprivileged = ap (λ q. q.unprivileged) e2 ∙ ap (λ q. q.unprivileged) e1;
              control = ap (λ q. q.mpu.control) e2;
              regions = ap (λ q. q.mpu.regions) e2 ∙ regions_are q1 e1;
              status = refl;
              raised = m1;
              raised_is = w1;
              left = entered_done i t p k.stub_entry psp o (rounded t psp - i.ram_base - 32) d g.compartment (rounded t psp) (g.entry - 1) top m1 m2 m3 m4 a.frame fo_frame fo_apart a.shallow s r c;
            })))))))) (omega arith)
          where
            w : Writable i t
            w = writable installed

            most : z.eighths ≤ 8
            most = let h = z.few in omega (arith, h)

            compartment_small : g.compartment < 2 ^ 16
            compartment_small = let x = is_entry.compartment_in in let y = p.most in omega (arith, x, y)

            depth1 : (m1 : List ℕ) → m1 ≡ write 4 (o + 24) (ret + 2) m → read 4 (here + 8) m1 ≡ d
            depth1 m1 e = (changed_write (o + 24) (ret + 2) m m1 e).reads 4 (here + 8) (⊎_elim (λ x. inl (omega (arith, x))) (λ x. inr (omega (arith, x))) (apart_from_block i t o top p a.frame)) ∙ a.depth

            top2 : (m1 m2 : List ℕ) → m1 ≡ write 4 (o + 24) (ret + 2) m → Saves i t p psp d m1 m2 → read 4 (here + 4) m2 ≡ top
            top2 m1 m2 e s = s.changed.reads 4 (here + 4) (inl (omega arith)) ∙ (changed_write (o + 24) (ret + 2) m m1 e).reads 4 (here + 4) (⊎_elim (λ x. inl (omega (arith, x))) (λ x. inr (omega (arith, x))) (apart_from_block i t o top p a.frame)) ∙ a.top_is

            wanted2 : (m1 m2 : List ℕ) → m1 ≡ write 4 (o + 24) (ret + 2) m → Saves i t p psp d m1 m2 → read 4 (o + 16) m2 ≡ g.entry - 1 + 1
            wanted2 m1 m2 e s =
                s.changed.reads 4 (o + 16) (⊎_elim (λ x. inr (let h = a.shallow in omega (arith, x, h))) (λ x. inl (omega (arith, x))) (apart_from_block i t o top p a.frame))
                ∙ (changed_write (o + 24) (ret + 2) m m1 e).reads 4 (o + 16) (inl (omega arith))
                ∙ sym wanted_is
                ∙ (let x = is_entry.odd in omega (arith, x))

            regions_are : (q1 : ProtectionState) → q1 ≡ with_unit q (written ((compartment_at t g.compartment).code ∷ (open_stack k z.eighths ∷ (compartment_at t g.compartment).slots)) q.mpu) → q1.mpu.regions ≡ regions_for i t g.compartment (rounded t psp)
            regions_are q1 e = ap (λ p. p.mpu.regions) e ∙ unit_is i t w stub z.eighths (rounded t psp) g.compartment a.first.others q.mpu most is_entry.compartment_in z.at a.first.count a.first.regions

      abbrev last : Option TargetRecord
      last = last_with_entry (read 4 (o + 16) m) (targets_of t (site_at t (read 2 ro i.flash)))

      -- where the site is known
      module _ (lt : read 2 ro i.flash < length t.sites) (re : (site_at t (read 2 ro i.flash)).ret ≡ ret) where
        abbrev at_targets : ℕ
        at_targets = to installed (site_at t (read 2 ro i.flash)) (a.sites (read 2 ro i.flash) lt)

        abbrev found : ℕ
        found = chosen i.flash at_targets (read 4 (o + 16) m) (site_at t (read 2 ro i.flash)).count

        found_is : found ≡ compartment_of last
        found_is = site_chosen installed (site_at t (read 2 ro i.flash)) (a.sites (read 2 ro i.flash) lt) (read 4 (o + 16) m)

        is_target : (g : TargetRecord) → last ≡ Some g → (g.entry ≡ read 4 (o + 16) m) × IsEntry t g.entry g.compartment
        is_target g e = target_is t (site_at t (read 2 ro i.flash)) (read 4 (o + 16) m) g p.targets e

        none_by : (l : Option TargetRecord) → last ≡ l → found ≡ 0xFFFFFFFF → last ≡ None
        none_by None e n = e
        none_by (Some g) e n = absurd (let c : g.compartment ≡ 0xFFFFFFFF = sym (found_is ∙ ap compartment_of e) ∙ n in let x = (is_target g e).1.compartment_in in let y = p.most in omega (arith, c, x, y))

        picked_within : {ks : List PrivilegedSteps} {Q : Outcome → Type 0} (l : Option TargetRecord) (v4 v7 : ℕ) → last ≡ l → found ≢ 0xFFFFFFFF →
            ((c : Core) (g : TargetRecord) → c.ram ≡ m → last ≡ Some g → rounded t psp ≡ t.stack.base → Q (Halted 5 c)) →
            ((c : Core) (g : TargetRecord) → last ≡ Some g → IsEntry t g.entry g.compartment → NewTop i t p psp → EndsEnter q o d ret g m c → Q (AtReturn c)) →
            W 244 (rounded_steps k ▸ raise ▸ save ▸ frame_steps k ▸ entered ▸ tables_of k ▸ closed_up) ks
            (core msp psp q u m psp k.block k.stack 0xFFFFFFFF v4 found 0 v7) Q
        picked_within None v4 v7 e n r5 go = absurd (n (found_is ∙ ap compartment_of e))
        picked_within {ks} {Q} (Some g) v4 v7 e n r5 go =
            at_within (ap (λ x. core msp psp q u m psp k.block k.stack 0xFFFFFFFF v4 x 0 v7) (found_is ∙ ap compartment_of e))
            (rounded_within premises psp_low psp_end (λ c e1 x. r5 c g e1 e x) (λ pos.
            rest_within (new_top i t p psp psp_low psp_high pos) g (is_target g e).1 (is_target g e).0 (λ c x. go c g e (is_target g e).1 (new_top i t p psp psp_low psp_high pos) x)))

        few_steps : 25 + 16 * (site_at t (read 2 ro i.flash)).count + 244 ≤ 1293
        few_steps = let f = (a.sites (read 2 ro i.flash) lt).few in omega (arith, f)

        target_on : {ks : List PrivilegedSteps} {Q : Outcome → Type 0} (v7 : ℕ) →
            ((c : Core) → c.ram ≡ m → last ≡ None → Q (Halted 3 c)) →
            ((c : Core) (g : TargetRecord) → c.ram ≡ m → last ≡ Some g → rounded t psp ≡ t.stack.base → Q (Halted 5 c)) →
            ((c : Core) (g : TargetRecord) → last ≡ Some g → IsEntry t g.entry g.compartment → NewTop i t p psp → EndsEnter q o d ret g m c → Q (AtReturn c)) →
            W 1293 (target k ▸ rounded_steps k ▸ raise ▸ save ▸ frame_steps k ▸ entered ▸ tables_of k ▸ closed_up) ks
            (core msp psp q u m psp k.block k.stack top ret (site_at t (read 2 ro i.flash)).first (site_at t (read 2 ro i.flash)).count v7) Q
        target_on {ks} {Q} v7 r3 r5 go =
            more_within
            (target_within premises msp psp u (site_at t (read 2 ro i.flash)).first (site_at t (read 2 ro i.flash)).count at_targets o top a.off a.at a.frame a.below a.top_is
            (site_targets installed (site_at t (read 2 ro i.flash)) (a.sites (read 2 ro i.flash) lt))
            (λ c e n. r3 c e (none_by last refl n))
            (λ v4 w7 n. picked_within last v4 w7 refl n r5 go)) few_steps

      -- all of it: 306 steps, and 16 for each target of the site
      pub enter_within : {ks : List PrivilegedSteps} {Q : Outcome → Type 0} {a5 a6 a7 : ℕ} →
          ((c : Core) → c.ram ≡ m → (read 2 ro i.flash < length t.sites → (site_at t (read 2 ro i.flash)).ret ≡ ret → ⊥) → Q (Halted 2 c)) →
          ((c : Core) → c.ram ≡ m → read 2 ro i.flash < length t.sites → (site_at t (read 2 ro i.flash)).ret ≡ ret → last ≡ None → Q (Halted 3 c)) →
          ((c : Core) (g : TargetRecord) → c.ram ≡ m → read 2 ro i.flash < length t.sites → (site_at t (read 2 ro i.flash)).ret ≡ ret → last ≡ Some g → rounded t psp ≡ t.stack.base → Q (Halted 5 c)) →
          ((c : Core) (g : TargetRecord) → read 2 ro i.flash < length t.sites → (site_at t (read 2 ro i.flash)).ret ≡ ret → last ≡ Some g → IsEntry t g.entry g.compartment → NewTop i t p psp → EndsEnter q o d ret g m c → Q (AtReturn c)) →
          W 1330 (enter k) ks (core msp psp q u m psp k.block k.stack top ret a5 a6 a7) Q
      enter_within {ks} {Q} r2 r3 r5 go =
          site_within premises ret ro a.off a.return_at a.return_even a.return_room r2
          (λ v7 lt re. target_on lt re v7 (λ c e n. r3 c e lt re n) (λ c g e n x. r5 c g e lt re n x) (λ c g n x y z. go c g lt re n x y z))

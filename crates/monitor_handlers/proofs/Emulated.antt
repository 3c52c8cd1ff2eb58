-- The access that the handler makes for its thread, and its end.
use Rattle.std.proofs.Common.{◌≡◌, ℕ, ◌+◌, ◌*◌, ◌-◌, ◌%◌, ◌^◌, ◌<◌, ◌≤◌, true, false, List, length, nat_eq, refl, sym, ap, ◌∙◌, subst, arith}
use Rattle.std.proofs.lemmas.Bool.Decides.{nat_tests}
use Rattle.base_words.specs.declared.memory.Width.{Width}
use Rattle.base_words.specs.declared.memory.Width.TheVariants.{Byte, Half, Word}
use Rattle.base_words.specs.Width.{byte_count}
use Rattle.base_words.specs.Arithmetic.{add, bit_clear}
use Rattle.base_words.specs.Bytes.{read, write, cut}
use Rattle.base_words.proofs.Bytes.{write-cut, cut_four}
use Rattle.machine_protection.specs.declared.region.Access.TheVariants.{Read, Write}
use Rattle.machine_protection.specs.Registers.{Registers, write_register}
use Rattle.machine_devices.specs.declared.image.Image.{Image}
use Rattle.machine_model.specs.declared.TheConstants.{CFSR}
use Rattle.machine_model.specs.declared.state.ProtectionState.{ProtectionState}
use Rattle.machine_model.specs.declared.state.FaultStatus.{FaultStatus}
use Rattle.machine_model.specs.declared.state.StopReason.TheVariants.{Unaligned}
use Rattle.machine_model.specs.State.{State, by_mpu}
use Rattle.machine_model.specs.System.{in_system, read_system, read_status, write_status}
use Rattle.monitor_steps.specs.Steps.{PrivilegedSteps, Load}
use Rattle.monitor_steps.specs.Core.{Core, low_register, with_low, with_system}
use Rattle.monitor_steps.specs.Effect.{Outcome, AtReturn, Stopped}
use Rattle.monitor_steps.proofs.Within.{GivesWithin, const_within, alu_within, at_within, more_within, next_within, yes_within, no_within, system_within}
use Rattle.monitor_model.specs.Outcomes.{stacked, moved_on}
use Rattle.monitor_program.specs.Constants.{Constants, constants_with}
use Rattle.monitor_program.specs.MemFault.{stored, loaded, finished}
use Rattle.monitor_model.specs.Reach.{OfSystem}
use Rattle.monitor_model.specs.BlockWords.{top as top_of}
use Rattle.monitor_model.specs.Handlers.{ForSystem}
use Rattle.monitor_laws.proofs.Off.{core, with_unit, IsOff, open_while_off, system_load_within}
use Rattle.monitor_laws.proofs.Unlend.{closed_within}
use Rattle.monitor_laws.proofs.HandlerRule.{HandlerRule, thread_premises}
use Rattle.monitor_laws.proofs.HandlerWords.{InStack, frame_load_within, frame_store_within}
use Rattle.monitor_handlers.proofs.Frames.{stacked_is}
use Rattle.monitor_handlers.proofs.Wide.{load_wide_within, store_wide_within, load_unaligned_within, store_unaligned_within}
use Rattle.monitor_laws.proofs.Placement.{Installed}
use Rattle.monitor_laws.proofs.Opened.{HandlerPremises}

-- ---- the register of the fault's status

read_cfsr : (p : ProtectionState) (u : FaultStatus) → read_system CFSR p u ≡ u.cfsr
unfolding read_system read_status
read_cfsr p u = refl

unit_same : (v : ℕ) (m : Registers) → write_register CFSR v m ≡ m
unfolding write_register
unit_same v m = refl

cleared : (u : FaultStatus) → u.cfsr ≡ 0x82 → write_status CFSR u.cfsr u ≡ record u { cfsr = 0 }
unfolding write_status bit_clear
cleared u e = ap (λ v. record u { cfsr = bit_clear v v }) e

-- ---- the return address rises

moved_is : (i : Image) (psp o x v : ℕ) (m : List ℕ) → psp ≡ i.ram_base + o → v ≡ read 4 (o + 24) m → x ≡ add v 2 → write 4 (o + 24) x m ≡ moved_on i psp m
moved_is i psp o x v m ep ev ex =
    let z : psp - i.ram_base ≡ o = omega (arith, ep) in
    let c : cut 4 (v + 2) ≡ x = cut_four (v + 2) ∙ sym ex in
    let w : v ≡ stacked i psp m 6 = ev ∙ sym (stacked_is i psp o 6 m ep (omega arith)) in
    ap (λ x. write 4 (o + 24) x m) (sym c)
    ∙ write-cut 4 (o + 24) (v + 2) m
    ∙ ap (λ v. write 4 (o + 24) (v + 2) m) w
    ∙ ap (λ o. write 4 (o + 24) (stacked i psp m 6 + 2) m) (sym z)

-- the core before the return
pub record IsDone (msp psp : ℕ) (r : ProtectionState) (u : FaultStatus) (after : List ℕ) (d : Core) : Type 0 where
  pub sp : d.sp ≡ msp
  pub other_sp : d.other_sp ≡ psp
  pub protection : d.protection ≡ r
  pub status : d.status ≡ record u { cfsr = 0 }
  pub ram : d.ram ≡ after

module _ (installed : Installed) (thread : State) (Good : ProtectionState → Type 0) (good : (q : ProtectionState) → IsOff true q → Good q) where
  open installed use {image as i, tables as t, placed as p, stub}

  abbrev k : Constants
  k = constants_with stub t

  abbrev W : ℕ → PrivilegedSteps → List PrivilegedSteps → Core → (Outcome → Type 0) → Type 0
  W n s ks c Q = GivesWithin by_mpu i Good (HandlerRule i t thread) n s ks c Q

  abbrev block : ℕ
  block = t.monitor - i.ram_base

  abbrev premises : HandlerPremises
  premises = thread_premises installed thread Good good

  open premises use {handles}

  loads_cfsr : (c : Core) → c.protection.handler ≡ true → HandlerRule i t thread Read c 4 CFSR
  loads_cfsr c h = λ u at closed k lt. (OfSystem (ap (λ q. q.handler) at.protection ∙ h) (within k lt), ForSystem (within k lt))
    where
      within : (k : ℕ) → k < 4 → in_system (CFSR + k) ≡ true
      within k lt = search (nat_tests, arith)

  -- CFSR into a register
  pub cfsr_within : {n to base : ℕ} {s : PrivilegedSteps} {ks : List PrivilegedSteps} {c : Core} {Q : Outcome → Type 0} → IsOff true c.protection → low_register c base ≡ CFSR → W n s ks (with_low c to c.status.cfsr) Q → W (1 + n) (Load Word to base 0 s) ks c Q
  cfsr_within {n} {to} {base} {s} {ks} {c} {Q} off e w =
      system_load_within CFSR off.privileged (at (low_register c base) e) refl (omega arith) refl refl (loads_cfsr c off.mode)
      (at_within (ap (λ v. with_low c to v) (read_cfsr c.protection c.status)) w)
    where
      at : (x : ℕ) → x ≡ CFSR → x + 4 * 0 ≡ CFSR
      at x h = omega (arith, h)

  module _ {msp psp : ℕ} {u : FaultStatus} where
    -- ---- by the width in r6

    pub store_by_width : (z : Width) (ao : ℕ) {n : ℕ} {s : PrivilegedSteps} {ks : List PrivilegedSteps} {Q : Outcome → Type 0} {q : ProtectionState} {m : List ℕ} {a0 a1 a2 a3 : ℕ} (a : ℕ) {a5 a7 : ℕ} → IsOff true q → a ≡ i.ram_base + ao → (i.ram_base + ao) % byte_count z ≡ 0 → ao < i.ram_size →
        ((c : Core) → c.ram ≡ m → HandlerRule i t thread Write c (byte_count z) (i.ram_base + ao)) →
        ((m1 : List ℕ) (v7 : ℕ) → m1 ≡ write (byte_count z) ao a5 m → length m1 ≡ length m → W n s ks (core msp psp q u m1 a0 a1 a2 a3 a a5 (byte_count z) v7) Q) →
        W (13 + n) (stored s) ks (core msp psp q u m a0 a1 a2 a3 a a5 (byte_count z) a7) Q
    store_by_width Word ao {q} a off e al hi ok f =
        more_within (const_within (yes_within refl (store_wide_within p.rules ao Word (open_while_off q off.control) (good q off) e al hi (ok _ refl) (λ m1 x l. next_within (f m1 4 x l))))) (omega arith)
    store_by_width Byte ao {q} a off e al hi ok f =
        more_within (const_within (no_within refl (const_within (yes_within refl (store_wide_within p.rules ao Byte (open_while_off q off.control) (good q off) e al hi (ok _ refl) (λ m1 x l. next_within (next_within (f m1 1 x l)))))))) (omega arith)
    store_by_width Half ao {q} a off e al hi ok f =
        more_within (const_within (no_within refl (const_within (no_within refl (store_wide_within p.rules ao Half (open_while_off q off.control) (good q off) e al hi (ok _ refl) (λ m1 x l. next_within (next_within (f m1 1 x l)))))))) (omega arith)

    pub store_by_width_stops : (z : Width) {s : PrivilegedSteps} {ks : List PrivilegedSteps} {Q : Outcome → Type 0} {q : ProtectionState} {m : List ℕ} {a0 a1 a2 a3 : ℕ} (a : ℕ) {a5 a7 : ℕ} → a < 2 ^ 32 → nat_eq (a % byte_count z) 0 ≡ false →
        ((c : Core) → c.ram ≡ m → HandlerRule i t thread Write c (byte_count z) a) → ((d : Core) → d.ram ≡ m → Q (Stopped Unaligned d)) →
        W 13 (stored s) ks (core msp psp q u m a0 a1 a2 a3 a a5 (byte_count z) a7) Q
    store_by_width_stops Word a lt odd ok f =
        more_within (const_within (yes_within refl (store_unaligned_within a Word refl lt odd (ok _ refl) (f _ refl)))) (omega arith)
    store_by_width_stops Byte a lt odd ok f =
        more_within (const_within (no_within refl (const_within (yes_within refl (store_unaligned_within a Byte refl lt odd (ok _ refl) (f _ refl)))))) (omega arith)
    store_by_width_stops Half a lt odd ok f =
        more_within (const_within (no_within refl (const_within (no_within refl (store_unaligned_within a Half refl lt odd (ok _ refl) (f _ refl)))))) (omega arith)

    pub load_by_width : (z : Width) (ao : ℕ) {n : ℕ} {s : PrivilegedSteps} {ks : List PrivilegedSteps} {Q : Outcome → Type 0} {q : ProtectionState} {m : List ℕ} {a0 a1 a2 a3 : ℕ} (a : ℕ) {a5 a7 : ℕ} → IsOff true q → a ≡ i.ram_base + ao → (i.ram_base + ao) % byte_count z ≡ 0 → ao < i.ram_size →
        ((c : Core) → c.ram ≡ m → HandlerRule i t thread Read c (byte_count z) (i.ram_base + ao)) →
        ((v v7 : ℕ) → v ≡ read (byte_count z) ao m → W n s ks (core msp psp q u m a0 a1 a2 a3 a v (byte_count z) v7) Q) →
        W (13 + n) (loaded s) ks (core msp psp q u m a0 a1 a2 a3 a a5 (byte_count z) a7) Q
    load_by_width Word ao {q} a off e al hi ok f =
        more_within (const_within (yes_within refl (load_wide_within p.rules ao Word (open_while_off q off.control) e al hi (ok _ refl) (λ v x. next_within (f v 4 x))))) (omega arith)
    load_by_width Byte ao {q} a off e al hi ok f =
        more_within (const_within (no_within refl (const_within (yes_within refl (load_wide_within p.rules ao Byte (open_while_off q off.control) e al hi (ok _ refl) (λ v x. next_within (next_within (f v 1 x)))))))) (omega arith)
    load_by_width Half ao {q} a off e al hi ok f =
        more_within (const_within (no_within refl (const_within (no_within refl (load_wide_within p.rules ao Half (open_while_off q off.control) e al hi (ok _ refl) (λ v x. next_within (next_within (f v 1 x)))))))) (omega arith)

    pub load_by_width_stops : (z : Width) {s : PrivilegedSteps} {ks : List PrivilegedSteps} {Q : Outcome → Type 0} {q : ProtectionState} {m : List ℕ} {a0 a1 a2 a3 : ℕ} (a : ℕ) {a5 a7 : ℕ} → a < 2 ^ 32 → nat_eq (a % byte_count z) 0 ≡ false →
        ((c : Core) → c.ram ≡ m → HandlerRule i t thread Read c (byte_count z) a) → ((d : Core) → d.ram ≡ m → Q (Stopped Unaligned d)) →
        W 13 (loaded s) ks (core msp psp q u m a0 a1 a2 a3 a a5 (byte_count z) a7) Q
    load_by_width_stops Word a lt odd ok f =
        more_within (const_within (yes_within refl (load_unaligned_within a Word refl lt odd (ok _ refl) (f _ refl)))) (omega arith)
    load_by_width_stops Byte a lt odd ok f =
        more_within (const_within (no_within refl (const_within (yes_within refl (load_unaligned_within a Byte refl lt odd (ok _ refl) (f _ refl)))))) (omega arith)
    load_by_width_stops Half a lt odd ok f =
        more_within (const_within (no_within refl (const_within (no_within refl (load_unaligned_within a Half refl lt odd (ok _ refl) (f _ refl)))))) (omega arith)

    -- ---- the end: the return address rises by 2, CFSR is cleared, and the unit is on again

    pub finished_within : (o top : ℕ) (r : ProtectionState) {ks : List PrivilegedSteps} {Q : Outcome → Type 0} {q : ProtectionState} {m : List ℕ} {a1 a2 a3 a4 a5 a6 a7 : ℕ} → IsOff true q → psp ≡ i.ram_base + o → InStack i t o top → i.ram_base + (o + 32) ≤ top_of i t thread.ram → read 4 (block + 4) m ≡ top → u.cfsr ≡ 0x82 →
        with_unit q (record q.mpu { control = 5 }) ≡ r → Good r → ((d : Core) → IsDone msp psp r u (moved_on i psp m) d → Q (AtReturn d)) →
        W 19 finished ks (core msp psp q u m psp a1 a2 a3 a4 a5 a6 a7) Q
    finished_within o top r {ks} {Q} {q} {m} {a1} {a2} {a3} {a6} {a7} off ep io below et ec on good_on f =
        more_within
        (frame_load_within premises o top 6 off io below ep refl et (λ v4 e4.
        const_within (alu_within (λ x ex.
        frame_store_within premises o top 6 off io ep refl et (λ m1 w1 z1.
        const_within (cfsr_within off refl
        (system_within CFSR off.privileged refl refl (omega arith) refl refl (handles.plain.system _ CFSR off.mode refl refl) (good_after m1)
        (at_within (same m1)
        (closed_within premises off (subst Good (sym on) good_on) (λ q1 e1.
        f _ (record { sp = refl; other_sp = refl; protection = e1 ∙ on; status = refl; ram = w1 ∙ moved_is i psp o x v4 m ep e4 ex }))))))))))) (omega arith)
      where
        same : (m1 : List ℕ) → with_system (core msp psp q u m1 psp a1 a2 a3 CFSR u.cfsr a6 a7) CFSR u.cfsr ≡ core msp psp q (record u { cfsr = 0 }) m1 psp a1 a2 a3 CFSR u.cfsr a6 a7
        same m1 =
            ap (λ r. record (core msp psp q u m1 psp a1 a2 a3 CFSR u.cfsr a6 a7) { protection = with_unit q r; status = write_status CFSR u.cfsr u }) (unit_same u.cfsr q.mpu)
            ∙ ap (λ s. record (core msp psp q u m1 psp a1 a2 a3 CFSR u.cfsr a6 a7) { status = s }) (cleared u ec)

        good_after : (m1 : List ℕ) → Good (with_system (core msp psp q u m1 psp a1 a2 a3 CFSR u.cfsr a6 a7) CFSR u.cfsr).protection
        good_after m1 = subst Good (ap (λ c. c.protection) (sym (same m1))) (good q off)

-- The list of leave: halt 0 where no call waits; else the caller goes on with the callee's result.
use Rattle.std.proofs.Common.{◌≡◌, ℕ, suc, ◌+◌, ◌-◌, ◌*◌, ◌/◌, ◌^◌, ◌<◌, ◌≤◌, true, List, ◌∷◌, length, refl, ap, ◌∙◌, arith}
use Rattle.std.proofs.lemmas.Bool.{eqb-true}
use Rattle.base_words.specs.Bytes.{read}
use Rattle.machine_protection.specs.declared.region.Region.{Region}
use Rattle.machine_protection.specs.declared.TheConstants.{MPU_CTRL, MPU_RBAR}
use Rattle.machine_protection.specs.Registers.{Registers}
use Rattle.machine_protection.specs.Laws.{kept_region}
use Rattle.machine_protection.specs.Configured.{written}
use Rattle.machine_devices.specs.declared.image.Image.{Image}
use Rattle.machine_model.specs.declared.state.ProtectionState.{ProtectionState}
use Rattle.machine_model.specs.declared.state.FaultStatus.{FaultStatus}
use Rattle.machine_model.specs.State.{by_mpu}
use Rattle.monitor_steps.specs.Steps.{PrivilegedSteps}
use Rattle.monitor_steps.specs.Core.{Core}
use Rattle.monitor_steps.specs.Effect.{Outcome, Halted, AtReturn}
use Rattle.monitor_steps.proofs.Within.{GivesWithin, const_within, alu_within, at_within, more_within, must_not_within}
use Rattle.monitor_model.specs.declared.tables.Tables.{Tables}
use Rattle.monitor_model.specs.Records.{compartment_at, number_of_slots}
use Rattle.monitor_model.specs.Regions.{background, tables_region, regions_for}
use Rattle.monitor_model.specs.Invariant.{IsTop}
use Rattle.monitor_program.specs.Constants.{Constants, constants_with}
use Rattle.monitor_program.specs.Svc.{leave}
use Rattle.monitor_laws.proofs.Numbers.{shl4}
use Rattle.monitor_laws.proofs.Off.{core, with_unit, IsOff}
use Rattle.monitor_laws.proofs.Written.{open_stack, tables_within}
use Rattle.monitor_laws.proofs.Tables.{shaped, has_compartment, record_at, top_is, unit_is}
use Rattle.monitor_laws.proofs.Placement.{writable}
use Rattle.monitor_laws.proofs.Opened.{eq_false, block_load_within, block_store_within, on_msp, HandlerPremises}
use Rattle.monitor_laws.proofs.Unlend.{closed_within}
use Rattle.monitor_laws.proofs.HandlerWords.{write_psp_within, InStack, entry_load_within, frame_load_within, frame_store_within}
use Rattle.monitor_laws.proofs.LeaveWords.{Leaving, HasLeft, Five, FiveSay, five_others, one_less, entry_is, whole_word, five_say, all_left}
use Rattle.monitor_laws.specs.RegionsWritten.{Writable}

-- regions 0 and 1 are those of the tables, and there are as many others as a compartment has
pub record HasFirstRegions (i : Image) (t : Tables) (u : Registers) : Type 0 where
  pub others : List Region
  pub count : length others ≡ number_of_slots t + 2
  pub regions : u.regions ≡ kept_region (background i) ∷ kept_region (tables_region t) ∷ others

module _ (premises : HandlerPremises) where
  open premises use {installed, installed.{image as i, tables as t, placed as p, has_tables as has, stub}, Good, Allowed, entry_top, handles, good}

  abbrev k : Constants
  k = constants_with stub t

  abbrev W : ℕ → PrivilegedSteps → List PrivilegedSteps → Core → (Outcome → Type 0) → Type 0
  W n s ks c Q = GivesWithin by_mpu i Good Allowed n s ks c Q

  abbrev block : ℕ
  block = t.monitor - i.ram_base

  -- the unit with the regions of a compartment and of so many open eighths
  abbrev pub with_regions : (current eighths : ℕ) → Registers → Registers
  with_regions c n u = written ((compartment_at t c).code ∷ (open_stack k n ∷ (compartment_at t c).slots)) u

  module _ {msp psp : ℕ} {u : FaultStatus} where
    -- without a call that waits
    pub leave_last_within : {ks : List PrivilegedSteps} {Q : Outcome → Type 0} {q : ProtectionState} {m : List ℕ} {a0 a2 a3 a4 a5 a6 a7 : ℕ} → IsOff true q → read 4 (block + 8) m ≡ 0 →
        ((d : Core) → d.ram ≡ m → Q (Halted 0 d)) →
        W 8 (leave k) ks (core msp psp q u m a0 k.block a2 a3 a4 a5 a6 a7) Q
    leave_last_within {ks} {Q} {m} off none refuse =
        block_load_within premises 2 off refl refl (λ x ex.
        const_within
        (must_not_within {m = 0} (λ e. refuse _ refl) (λ e. absurd (eq_false _ _ e (ex ∙ none)))))

    -- the last call that waits goes on: RAM is as `HasLeft` tells, PSP is that of its frame, and the unit has the regions of its compartment
    -- and of its TOP
    pub leave_within : {ks : List PrivilegedSteps} {Q : Outcome → Type 0} (o d back current top mark below : ℕ) {q : ProtectionState} {m : List ℕ} {a2 a3 a4 a5 a6 a7 : ℕ} → psp ≡ i.ram_base + o → IsOff true q → Leaving installed m d back current top mark → InStack i t back top → InStack i t o top → i.ram_base + (o + 32) ≤ entry_top →
        (is : IsTop t below top) → current < length t.comps → HasFirstRegions i t q.mpu →
        ((q1 : ProtectionState) → q1 ≡ with_unit q (with_regions current is.0 q.mpu) → q1.mpu.regions ≡ regions_for i t current top → Good (with_unit q1 (record q1.mpu { control = 5 }))) →
        ((q1 : ProtectionState) (new : List ℕ) (b0 b2 b4 b6 b7 : ℕ) → q1 ≡ with_unit q (record (with_regions current is.0 q.mpu) { control = 5 }) → q1.mpu.regions ≡ regions_for i t current top → HasLeft installed o m new d back current top mark →
        Q (AtReturn (core msp (i.ram_base + back) q1 u new b0 k.block b2 top b4 current b6 b7))) →
        W 184 (leave k) ks (core msp psp q u m psp k.block a2 a3 a4 a5 a6 a7) Q
    leave_within {ks} {Q} o d back current top mark below {q} {m} {a2} ep off lv ib io under is lt first on f =
        more_within
        (block_load_within premises 2 off refl refl (λ d4 e4.
        const_within
        (must_not_within (λ x. absurd (not_zero d4 (eqb-true _ _ x) (e4 ∙ lv.depth))) (λ x.
        const_within (alu_within (λ n4 en.
        let dn : n4 ≡ d = one_less installed n4 d4 d en (e4 ∙ lv.depth) lv.few in
        block_store_within premises 2 off refl refl (λ m1 w1 z1.
        block_load_within premises 4 off refl refl (λ v1 x1.
        block_store_within premises 3 off refl refl (λ m2 w2 z2.
        const_within (alu_within (λ s4 es.
        let s16 : s4 ≡ 16 * d = shl4 n4 s4 es (is_small n4 dn lv.few) ∙ ap (λ n. 16 * n) dn in
        alu_within (λ q6 e6.
        let r6 : q6 ≡ t.monitor + 16 * d = entry_is installed q6 s4 d e6 s16 lv.few in
        entry_load_within premises d 9 off r6 lv.few refl (λ v2 x2.
        block_store_within premises 0 off refl refl (λ m3 w3 z3.
        entry_load_within premises d 10 off r6 lv.few refl (λ v3 x3.
        block_store_within premises 1 off refl refl (λ m4 w4 z4.
        entry_load_within premises d 11 off r6 lv.few refl (λ v4 x4.
        block_store_within premises 4 off refl refl (λ m5 w5 z5.
        let five : Five installed m m1 m2 m3 m4 m5 n4 v1 v2 v3 v4 = record { w1 = w1; w2 = w2; w3 = w3; w4 = w4; w5 = w5; z1 = z1; z2 = z2; z3 = z3; z4 = z4 } in
        let say : FiveSay installed m m5 v2 v3 d back current top mark = five_say installed m m1 m2 m3 m4 m5 n4 v1 v2 v3 v4 d back current top mark five lv dn x1 x2 x3 x4 in
        entry_load_within premises d 8 off r6 lv.few refl (λ v5 x5.
        let v5_is : v5 ≡ i.ram_base + back = x5 ∙ say.psp_is in
        frame_load_within premises o top 0 off io under ep refl say.top_is (λ v6 x6.
        frame_store_within premises back top 0 off ib v5_is refl say.top_is (λ m6 w6 z6.
        let done : HasLeft installed o m m6 d back current top mark = all_left installed o m m5 m6 v2 v3 v6 d back current top mark (five_others installed m m1 m2 m3 m4 m5 n4 v1 v2 v3 v4 five) say lv.as_long ib io w6 x6 in
        write_psp_within (on_msp q off.privileged)
        (at_within (same v5 v2 v3 q6 v6 m6 (whole_word installed v5 back v5_is ib.aligned) say.v3_is say.v2_is)
        (tables_within i p.rules k Good Allowed true handles.plain good current (record_at i t w stub current) n top (compartment_at t current).code (compartment_at t current).slots off (shaped i t w stub) (has_compartment i t w stub current lt) few is.2 most (top_is i t w stub n top is.1) (λ q1 y2 y6 y7 e1 off1.
        closed_within premises off1 (on q1 e1 (regions_are q1 e1)) (λ q2 e2.
        f q2 m6 MPU_RBAR y2 v5 MPU_CTRL 5 (e2 ∙ ap (λ p. with_unit p (record p.mpu { control = 5 })) e1) (ap (λ p. p.mpu.regions) e2 ∙ regions_are q1 e1) done))))))))))))))))))))))))) (omega arith)
      where
        w : Writable i t
        w = writable installed

        n : ℕ
        n = is.0

        most : n ≤ 8
        most = let h = is.3 in omega (arith, h)

        few : current < 2 ^ 16
        few = let a = p.most in omega (arith, lt, a)

        not_zero : (a : ℕ) → a ≡ 0 → a ≡ suc d → ⊥
        not_zero a x y = absurd (omega (arith, x, y))

        is_small : (n : ℕ) → n ≡ d → d < 8 → n < 2 ^ 28
        is_small n x y = omega (arith, x, y)

        same : (v5 v2 v3 q6 v6 : ℕ) (m6 : List ℕ) → v5 / 4 * 4 ≡ i.ram_base + back → v3 ≡ top → v2 ≡ current →
            core msp (v5 / 4 * 4) q u m6 psp k.block a2 v3 v5 v2 q6 v6 ≡ core msp (i.ram_base + back) q u m6 psp k.block a2 top v5 current q6 v6
        same v5 v2 v3 q6 v6 m6 e e3 e2 =
            ap (λ s. core msp s q u m6 psp k.block a2 v3 v5 v2 q6 v6) e
            ∙ ap (λ x. core msp (i.ram_base + back) q u m6 psp k.block a2 x v5 v2 q6 v6) e3
            ∙ ap (λ x. core msp (i.ram_base + back) q u m6 psp k.block a2 top v5 x q6 v6) e2

        regions_are : (q1 : ProtectionState) → q1 ≡ with_unit q (with_regions current is.0 q.mpu) → q1.mpu.regions ≡ regions_for i t current top
        regions_are q1 e = ap (λ p. p.mpu.regions) e ∙ unit_is i t w stub n top current first.others q.mpu most lt is.1 first.count first.regions

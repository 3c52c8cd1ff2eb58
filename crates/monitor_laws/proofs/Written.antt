-- The tables of a compartment are written: regions 2, 3 and its slots.
use Rattle.std.proofs.Common.{◌≡◌, ℕ, ◌+◌, ◌-◌, ◌*◌, ◌/◌, ◌%◌, ◌^◌, ◌<◌, ◌≤◌, inl, inr, Bool, true, false, List, [], ◌∷◌, length, refl, sym, ap, ◌∙◌, subst, arith}
use Rattle.std.specs.Prelude.{bit_and}
use Rattle.std.proofs.lemmas.Nat.{pow_pos}
use Rattle.base_words.specs.Bytes.{read}
use Rattle.base_words.specs.declared.memory.Width.TheVariants.{Word}
use Rattle.machine_protection.specs.declared.region.Region.{Region}
use Rattle.machine_protection.specs.declared.TheConstants.{MPU_RBAR, MPU_RASR}
use Rattle.machine_protection.specs.Registers.{write_register}
use Rattle.machine_protection.specs.Configured.{written}
use Rattle.machine_devices.specs.declared.image.Image.{Image}
use Rattle.machine_devices.specs.Rules.{ObeysRules}
use Rattle.machine_model.specs.declared.state.ProtectionState.{ProtectionState}
use Rattle.machine_model.specs.declared.state.FaultStatus.{FaultStatus}
use Rattle.machine_model.specs.State.{by_mpu}
use Rattle.monitor_steps.specs.Steps.{PrivilegedSteps}
use Rattle.monitor_steps.specs.Core.{Core}
use Rattle.monitor_steps.specs.Effect.{Outcome}
use Rattle.monitor_steps.specs.Safe.{Rule}
use Rattle.monitor_steps.proofs.Within.{GivesWithin, const_within, alu_within, more_within, load_flash_within}
use Rattle.monitor_program.specs.Constants.{Constants}
use Rattle.monitor_program.specs.Opening.{bits_of, times, record_of, regions, stack_region, tables_of, region}
use Rattle.monitor_laws.proofs.Numbers.{shl3, shl8, shr_by, times_over, srd_is, srd_word, horner, Small, times_is, times_ticks, product_ticks}
use Rattle.monitor_laws.proofs.Off.{core, with_unit, IsOff, Allows, open_while_off, status_stays, rbar_control, rasr_control, unit_within}

-- flash holds the words of regions from an offset on
abbrev pub HasRegions : Image → List Region → ℕ → Type 0
HasRegions i [] o = Unit {0}
HasRegions i (g ∷ gs) o = (read 4 o i.flash ≡ g.rbar) × (read 4 (o + 4) i.flash ≡ g.rasr) × (o + 8 ≤ length i.flash) × HasRegions i gs (o + 8)

-- region 3 with n open eighths
abbrev pub open_stack : Constants → (n : ℕ) → Region
open_stack t n = record { rbar = t.stack_region.rbar; rasr = t.stack_region.rasr + (256 - 2 ^ n) * 256 }

-- the words of compartment cur, in flash from offset o on: region 2 and the slots
pub record HasRecord (i : Image) (t : Constants) (cur o : ℕ) (code : Region) (slots : List Region) : Type 0 where
  pub at : t.compartments_at + (8 * t.slots + 16) * cur ≡ i.flash_base + o
  pub aligned : o % 4 ≡ 0
  pub count : length slots ≡ t.slots
  pub code_words : HasRegions i (code ∷ []) (o + 4 * 0)
  pub slot_words : HasRegions i slots (o + 4 * 2)

-- what is the same for every compartment
pub record Shaped (t : Constants) : Type 0 where
  pub least : 4 ≤ t.slots
  pub most : t.slots ≤ 12
  pub eighths : t.eighth ≤ 13
  pub stack_ends : t.stack + 8 * 2 ^ t.eighth < 2 ^ 31
  pub rasr : t.stack_region.rasr < 2 ^ 31

module _ (i : Image) (rules : ObeysRules i) (t : Constants) (Good : ProtectionState → Type 0) (Allowed : Rule) (h : Bool) (allows : Allows i Allowed h) (good : (q : ProtectionState) → IsOff h q → Good q) where
  abbrev W : ℕ → PrivilegedSteps → List PrivilegedSteps → Core → (Outcome → Type 0) → Type 0
  W n s ks c Q = GivesWithin by_mpu i Good Allowed n s ks c Q

  module _ {msp psp : ℕ} {u : FaultStatus} where
    -- both words of a region
    pub region_within : (g : Region) (o fo : ℕ) {b w : ℕ} {k : PrivilegedSteps} {ks : List PrivilegedSteps} {Q : Outcome → Type 0} {q : ProtectionState} {m : List ℕ} {a1 a2 a3 a4 a5 a6 a7 : ℕ} → IsOff h q → a6 ≡ i.flash_base + o → fo ≡ o + 4 * w → o % 4 ≡ 0 → fo + 8 ≤ length i.flash →
        read 4 fo i.flash ≡ g.rbar → read 4 (fo + 4) i.flash ≡ g.rasr →
        ((p : ProtectionState) (v7 : ℕ) → p ≡ with_unit q (written (g ∷ []) q.mpu) → IsOff h p → W b k ks (core msp psp p u m MPU_RBAR a1 a2 a3 a4 a5 a6 v7) Q) →
        W (1 + (1 + (1 + (1 + b)))) (region w k) ks (core msp psp q u m MPU_RBAR a1 a2 a3 a4 a5 a6 a7) Q
    region_within g o fo {b} {w} {k} {ks} {Q} {q} off e6 efo al hi h1 h2 f =
        let flash_al = rules.flash_aligned in
        load_flash_within rules fo {z = Word} (open_while_off q off.control) (omega arith) (omega arith) (omega arith) (allows.flash _ 4 fo (omega arith)) (λ v ev.
        unit_within i rules Good Allowed h allows good MPU_RBAR refl refl (omega arith) refl refl off (status_stays MPU_RBAR v u (inr (inl refl))) (rbar_control v q.mpu) (λ q1 e1 off1.
        load_flash_within rules (fo + 4) {z = Word} (open_while_off q1 off1.control) (omega arith) (omega arith) (omega arith) (allows.flash _ 4 (fo + 4) (omega arith)) (λ x ex.
        unit_within i rules Good Allowed h allows good MPU_RASR refl refl (omega arith) refl refl off1 (status_stays MPU_RASR x u (inr (inr refl))) (rasr_control x q1.mpu) (λ q2 e2 off2.
        let both : write_register MPU_RASR x q1.mpu ≡ written (g ∷ []) q.mpu =
        ap (λ p. write_register MPU_RASR x p.mpu) e1 ∙ ap (λ a. write_register MPU_RASR x (write_register MPU_RBAR a q.mpu)) (ev ∙ h1) ∙ ap (λ a. write_register MPU_RASR a (write_register MPU_RBAR g.rbar q.mpu)) (ex ∙ h2) in
        f q2 x (e2 ∙ ap (λ p. with_unit p (write_register MPU_RASR x q1.mpu)) e1 ∙ ap (λ n. with_unit q n) both) off2))))

    -- as many as there are, from a word of the record on
    pub regions_within : (gs : List Region) (o w : ℕ) {b : ℕ} {k : PrivilegedSteps} {ks : List PrivilegedSteps} {Q : Outcome → Type 0} {q : ProtectionState} {m : List ℕ} {a1 a2 a3 a4 a5 a6 a7 : ℕ} → IsOff h q → a6 ≡ i.flash_base + o → o % 4 ≡ 0 → HasRegions i gs (o + 4 * w) →
        ((p : ProtectionState) (v7 : ℕ) → p ≡ with_unit q (written gs q.mpu) → IsOff h p → W b k ks (core msp psp p u m MPU_RBAR a1 a2 a3 a4 a5 a6 v7) Q) →
        W (4 * length gs + b) (regions (length gs) w k) ks (core msp psp q u m MPU_RBAR a1 a2 a3 a4 a5 a6 a7) Q
    regions_within [] o w {q} {a7} off e6 al has f = more_within (f q a7 refl off) (omega arith)
    regions_within (g ∷ gs) o w {b} {k} {ks} {Q} {q} {a7} off e6 al has f =
        more_within
        (region_within g o (o + 4 * w) off e6 refl al has.2 has.0 has.1 (λ q1 v7 e1 off1.
        let next : o + 4 * w + 8 ≡ o + 4 * (w + 2) = omega arith in
        regions_within gs o (w + 2) off1 e6 al (subst (λ n. HasRegions i gs n) next has.3) (λ q2 v ee off2.
        f q2 v (ee ∙ ap (λ p. with_unit p (written gs p.mpu)) e1) off2))) (omega arith)

    -- a register times a number
    times_within : (bs : List Bool) (x y : ℕ) {b : ℕ} {k : PrivilegedSteps} {ks : List PrivilegedSteps} {Q : Outcome → Type 0} {q : ProtectionState} {m : List ℕ} {a0 a1 a2 a3 a4 a7 : ℕ} → Small bs x y →
        ((v : ℕ) → v ≡ horner bs x y → W b k ks (core msp psp q u m a0 a1 a2 a3 a4 y v a7) Q) →
        W (times_ticks bs + b) (times 6 5 bs k) ks (core msp psp q u m a0 a1 a2 a3 a4 y x a7) Q
    times_within [] x y {q} {m} {a0} {a1} {a2} {a3} {a4} {a7} small f = more_within (f x refl) (omega arith)
    times_within (true ∷ bs) x y {b} {k} {ks} {Q} {q} {m} {a0} {a1} {a2} {a3} {a4} {a7} small f =
        more_within
        (alu_within (λ v ev. alu_within (λ z ez.
        let e : z ≡ x + x + y = omega (arith, ez, ev, small.0) in
        subst (λ z. W (times_ticks bs + b) (times 6 5 bs k) ks (core msp psp q u m a0 a1 a2 a3 a4 y z a7) Q) (sym e) (times_within bs (x + x + y) y small.1 f)))) (omega arith)
    times_within (false ∷ bs) x y {b} {k} {ks} {Q} {q} {m} {a0} {a1} {a2} {a3} {a4} {a7} small f =
        more_within
        (alu_within (λ v ev.
        let e : v ≡ x + x = omega (arith, ev, small.0) in
        subst (λ z. W (times_ticks bs + b) (times 6 5 bs k) ks (core msp psp q u m a0 a1 a2 a3 a4 y z a7) Q) (sym e) (times_within bs (x + x) y small.1 f))) (omega arith)

    -- the record of a compartment, at offset o of flash
    pub record_of_within : (cur o : ℕ) {b : ℕ} {k : PrivilegedSteps} {ks : List PrivilegedSteps} {Q : Outcome → Type 0} {q : ProtectionState} {m : List ℕ} {a0 a1 a2 a3 a4 a6 a7 : ℕ} → 4 ≤ t.slots → t.slots ≤ 12 → cur < 2 ^ 16 → t.compartments_at + (8 * t.slots + 16) * cur ≡ i.flash_base + o → i.flash_base + o < 2 ^ 31 →
        ((v v7 : ℕ) → v ≡ i.flash_base + o → W b k ks (core msp psp q u m a0 a1 a2 a3 a4 cur v v7) Q) →
        W (46 + b) (record_of t k) ks (core msp psp q u m a0 a1 a2 a3 a4 cur a6 a7) Q
    record_of_within cur o {b} {k} {ks} {Q} lo hi few at end f =
        let n = times_is t.slots cur lo hi few in
        more_within
        (const_within (times_within (bits_of 4 (t.slots + 2)) 0 cur n.1 (λ x ex.
        let ee : x ≡ (t.slots + 2) * cur = ex ∙ n.0 in
        let eight : (8 * t.slots + 16) * cur ≡ 8 * ((t.slots + 2) * cur) = grind arith in
        const_within (alu_within (λ y ey.
        let ye : y ≡ 8 * x = shl3 x y ey (omega (arith, ee, eight, at, end)) in
        const_within (alu_within (λ z ez. f z t.compartments_at (omega (arith, ez, ye, ee, eight, at, end))))))))) (spent (product_ticks (t.slots + 2)))
      where
        spent : times_ticks (bits_of 4 (t.slots + 2)) ≤ 32 → 2 + (times_ticks (bits_of 4 (t.slots + 2)) + (2 + (4 + (2 + (4 + b))))) ≤ 46 + b
        spent a = omega (arith, a)

    -- region 3
    pub stack_region_within : (n top : ℕ) {b : ℕ} {k : PrivilegedSteps} {ks : List PrivilegedSteps} {Q : Outcome → Type 0} {q : ProtectionState} {m : List ℕ} {a1 a2 a4 a5 a6 a7 : ℕ} → IsOff h q → t.eighth ≤ 13 → 1 ≤ n → n ≤ 8 → top ≡ t.stack + n * 2 ^ t.eighth → t.stack + 8 * 2 ^ t.eighth < 2 ^ 31 → t.stack_region.rasr < 2 ^ 31 →
        ((p : ProtectionState) (v2 v7 : ℕ) → p ≡ with_unit q (written (open_stack t n ∷ []) q.mpu) → IsOff h p → W b k ks (core msp psp p u m MPU_RBAR a1 v2 top a4 a5 a6 v7) Q) →
        W (40 + b) (stack_region t k) ks (core msp psp q u m MPU_RBAR a1 a2 top a4 a5 a6 a7) Q
    stack_region_within n top {b} {k} {ks} {Q} {q} off most some few et hi small f =
        let ge : n * 2 ^ t.eighth ≤ 8 * 2 ^ t.eighth = grind arith in
        more_within
        (const_within (alu_within (λ d ed.
        let de : d ≡ n * 2 ^ t.eighth = omega (arith, ed, et, hi, ge) in
        const_within (alu_within (λ v ev.
        let ve : v ≡ n = shr_by d t.eighth v ev (omega (arith, most)) ∙ ap (λ d. d / 2 ^ t.eighth) de ∙ times_over n (2 ^ t.eighth) (pow_pos t.eighth) in
        const_within (alu_within (λ x ex. const_within (alu_within (λ y ey.
        let ye : y ≡ 256 - 2 ^ n = ey ∙ ap (λ x. bit_and x 255) (srd_word n v x ve ex) ∙ srd_is n some few in
        const_within (alu_within (λ z ez.
        let ze : z ≡ (256 - 2 ^ n) * 256 = shl8 y z ez (omega (arith, ye)) ∙ ap (λ y. y * 256) ye in
        const_within (alu_within (λ a ea.
        let ae : a ≡ t.stack_region.rasr + (256 - 2 ^ n) * 256 = omega (arith, ea, ze, small) in
        const_within
        (unit_within i rules Good Allowed h allows good MPU_RBAR refl refl (omega arith) refl refl off (status_stays MPU_RBAR t.stack_region.rbar u (inr (inl refl))) (rbar_control t.stack_region.rbar q.mpu) (λ q1 e1 off1.
        unit_within i rules Good Allowed h allows good MPU_RASR refl refl (omega arith) refl refl off1 (status_stays MPU_RASR a u (inr (inr refl))) (rasr_control a q1.mpu) (λ q2 e2 off2.
        let both : write_register MPU_RASR a q1.mpu ≡ written (open_stack t n ∷ []) q.mpu =
        ap (λ p. write_register MPU_RASR a p.mpu) e1 ∙ ap (λ a. write_register MPU_RASR a (write_register MPU_RBAR t.stack_region.rbar q.mpu)) ae in
        f q2 a t.stack_region.rbar (e2 ∙ ap (λ p. with_unit p (write_register MPU_RASR a q1.mpu)) e1 ∙ ap (λ n. with_unit q n) both) off2)))))))))))))))) (omega arith)

    pub tables_within : (cur o n top : ℕ) (code : Region) (slots : List Region) {b : ℕ} {k : PrivilegedSteps} {ks : List PrivilegedSteps} {Q : Outcome → Type 0} {q : ProtectionState} {m : List ℕ} {a0 a1 a2 a4 a6 a7 : ℕ} → IsOff h q → Shaped t → HasRecord i t cur o code slots → cur < 2 ^ 16 → 1 ≤ n → n ≤ 8 → top ≡ t.stack + n * 2 ^ t.eighth →
        ((p : ProtectionState) (v2 v6 v7 : ℕ) → p ≡ with_unit q (written (code ∷ (open_stack t n ∷ slots)) q.mpu) → IsOff h p → W b k ks (core msp psp p u m MPU_RBAR a1 v2 top a4 cur v6 v7) Q) →
        W (140 + b) (tables_of t k) ks (core msp psp q u m a0 a1 a2 top a4 cur a6 a7) Q
    tables_within cur o n top code slots {b} {k} {ks} {Q} {m} {a1} {a4} off sh r few some most et f =
        let first = r.code_words in
        let below = first.2 in
        more_within
        (record_of_within cur o sh.least sh.most few r.at (omega (arith, below, rules.flash_highest, rules.flash_most)) (λ v6 v7 e6.
        const_within
        (regions_within (code ∷ []) o 0 off e6 r.aligned r.code_words (λ q1 x7 e1 off1.
        stack_region_within n top off1 sh.eighths some most et sh.stack_ends sh.rasr (λ q2 y2 y7 e2 off2.
        subst (λ c. W (4 * length slots + b) (regions c 2 k) ks (core msp psp q2 u m MPU_RBAR a1 y2 top a4 cur v6 y7) Q) r.count
        (regions_within slots o 2 off2 e6 r.aligned r.slot_words (λ q3 z7 e3 off3.
        f q3 y2 v6 z7 (e3 ∙ ap (λ p. with_unit p (written slots p.mpu)) (e2 ∙ ap (λ p. with_unit p (written (open_stack t n ∷ []) p.mpu)) e1)) off3)))))))
        (spent r.count sh.most)
      where
        spent : length slots ≡ t.slots → t.slots ≤ 12 → 46 + (2 + (4 * length (code ∷ []) + (40 + (4 * length slots + b)))) ≤ 140 + b
        spent a c = omega (arith, a, c)

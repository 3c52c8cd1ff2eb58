-- A part of enter: the compartment of the last target with the entry that is asked for, or halt 3.
use Rattle.std.proofs.Common.{◌≡◌, ◌≢◌, ℕ, zero, suc, ◌+◌, ◌-◌, ◌*◌, ◌%◌, ◌^◌, ◌<◌, ◌≤◌, Bool, true, false, List, [], length, nat_eq, refl, sym, ap, ◌∙◌, arith}
use Rattle.std.proofs.Math.Nat.{zero-add}
use Rattle.std.proofs.lemmas.Bool.{eqb-true}
use Rattle.base_words.specs.Arithmetic.{add, subtract}
use Rattle.base_words.specs.declared.memory.Width.TheVariants.{Word}
use Rattle.base_words.specs.Bytes.{read}
use Rattle.machine_bus.specs.Locations.{choose}
use Rattle.machine_model.specs.declared.state.ProtectionState.{ProtectionState}
use Rattle.machine_model.specs.declared.state.FaultStatus.{FaultStatus}
use Rattle.machine_model.specs.State.{by_mpu}
use Rattle.monitor_steps.specs.declared.steps.PrivilegedOp.TheVariants.{Add}
use Rattle.monitor_steps.specs.declared.steps.PrivilegedCond.TheVariants.{Eq}
use Rattle.monitor_steps.specs.Steps.{PrivilegedSteps, End, Const, Load, Alu, Test, ◌▸◌}
use Rattle.monitor_steps.specs.Core.{Core, low_register}
use Rattle.monitor_steps.specs.Effect.{Outcome, Went, Halted, with_one_less}
use Rattle.monitor_steps.proofs.Within.{GivesWithin, const_within, alu_within, at_within, more_within, must_not_within, yes_within, no_within, next_within, end_within, loop_within}
use Rattle.monitor_program.specs.Constants.{Constants, constants_with}
use Rattle.monitor_program.specs.Svc.{target, target_turn}
use Rattle.monitor_laws.proofs.Numbers.{shl3}
use Rattle.monitor_laws.proofs.Off.{core, IsOff}
use Rattle.monitor_laws.proofs.Opened.{eq_false, HandlerPremises}
use Rattle.monitor_laws.proofs.HandlerWords.{InStack, frame_load_within}
use Rattle.monitor_laws.proofs.EnterSite.{flash_word_within}
use Rattle.monitor_laws.proofs.Placement.{Installed}
use Rattle.monitor_model.specs.Offsets.{target_compartment}
use Rattle.monitor_model.specs.Values.{target_size}

-- of so many targets from an offset of flash on, the compartment of the last with this entry, or all ones
abbrev pub chosen : (flash : List ℕ) → (o e : ℕ) → ℕ → ℕ
chosen flash o e zero = 0xFFFFFFFF
chosen flash o e (suc k) = choose (nat_eq (read 4 (o + 8 * k) flash) e) (read 4 (o + 8 * k + 4) flash) (chosen flash o e k)

-- the records of a site's targets stand in flash
pub record HasTargets (installed : Installed) (first count to : ℕ) : Type 0 where
  pub at : (constants_with installed.stub installed.tables).targets_at + 8 * first ≡ installed.image.flash_base + to
  pub first_low : first < 2 ^ 24
  pub aligned : to % 4 ≡ 0
  pub room : to + 8 * count ≤ length installed.image.flash
  pub few : count ≤ 64

-- the end of a turn: to the next target
abbrev next_target : PrivilegedSteps
next_target = Const 3 target_size ▸ Alu Add 7 7 3 ▸ End

module _ (premises : HandlerPremises) where
  open premises use {installed.{image as i, tables as t, placed as p, stub}, Good, Allowed, entry_top}

  abbrev k : Constants
  k = constants_with stub t

  abbrev W : ℕ → PrivilegedSteps → List PrivilegedSteps → Core → (Outcome → Type 0) → Type 0
  W n s ks c Q = GivesWithin by_mpu i Good Allowed n s ks c Q

  module _ (msp psp : ℕ) (u : FaultStatus) where
    -- the loop over the targets, with n left
    record Turning (q : ProtectionState) (m : List ℕ) (a0 a1 a2 e to count : ℕ) (n : ℕ) (c : Core) : Type 0 where
      done : ℕ
      all_of : done + n ≡ count
      v3 : ℕ
      v7 : ℕ
      at : v7 ≡ i.flash_base + (to + 8 * done)
      is : c ≡ core msp psp q u m a0 a1 a2 v3 e (chosen i.flash to e done) n v7

    turn_within : (q : ProtectionState) (m : List ℕ) (a0 a1 a2 e to count n : ℕ) (c : Core) → IsOff true q → to % 4 ≡ 0 → to + 8 * count ≤ length i.flash → count ≤ 64 → Turning q m a0 a1 a2 e to count (suc n) c →
        W 12 target_turn [] c (λ o. (d : Core) × (o ≡ Went d) × Turning q m a0 a1 a2 e to count n (with_one_less 6 d))
    turn_within q m a0 a1 a2 e to count n c off al hi few r =
        at_within r.is
        (flash_word_within premises (to + 8 * r.done) 0 off r.at (here_aligned r.done) (here_room r.done 0 r.all_of (omega arith)) (λ v3 e3.
        tested v3 (e3 ∙ plus (to + 8 * r.done)) (nat_eq v3 e) refl))
      where
        Done : Outcome → Type 0
        Done o = (d : Core) × (o ≡ Went d) × Turning q m a0 a1 a2 e to count n (with_one_less 6 d)

        here_aligned : (x : ℕ) → (to + 8 * x) % 4 ≡ 0
        here_aligned x = omega (arith, al)

        here_room : (x off : ℕ) → x + suc n ≡ count → off ≤ 1 → to + 8 * x + 4 * off + 4 ≤ length i.flash
        here_room x off a b = omega (arith, a, b, hi)

        plus : (o : ℕ) → read 4 (o + 4 * 0) i.flash ≡ read 4 o i.flash
        plus o = let z : o + 4 * 0 ≡ o = omega arith in ap (λ o. read 4 o i.flash) z

        one_off : (n : ℕ) → n ≤ 64 → subtract (suc n) 1 ≡ n
        one_off n h = omega (arith, h)

        small : n ≤ 64
        small = let a = r.all_of in omega (arith, a, few)

        next_at : (v7 w7 : ℕ) → v7 ≡ i.flash_base + (to + 8 * r.done) → w7 ≡ add v7 8 → w7 ≡ i.flash_base + (to + 8 * suc r.done)
        next_at v7 w7 a b = let x = here_room r.done 0 r.all_of (omega arith) in let f = p.rules.flash_highest in let z = p.rules.flash_most in omega (arith, a, b, x, f, z)

        next_all : r.done + suc n ≡ count → suc r.done + n ≡ count
        next_all a = omega (arith, a)

        tail_within : (v3 v5 : ℕ) → v5 ≡ chosen i.flash to e (suc r.done) → W 6 next_target [] (core msp psp q u m a0 a1 a2 v3 e v5 (suc n) r.v7) Done
        tail_within v3 v5 ch =
            const_within (alu_within (λ w7 e7. end_within (
              _,
              refl,
              record {
                done = suc r.done;
                all_of = next_all r.all_of;
                v3 = 8;
                v7 = w7;
                at = next_at r.v7 w7 r.at e7;
                is = ap (λ x. core msp psp q u m a0 a1 a2 8 e x (subtract (suc n) 1) w7) ch ∙ ap (λ x. core msp psp q u m a0 a1 a2 8 e (chosen i.flash to e (suc r.done)) x w7) (one_off n small);
              },
            )))

        picked : (b : Bool) (v3 x y : ℕ) → v3 ≡ read 4 (to + 8 * r.done) i.flash → nat_eq v3 e ≡ b → choose (nat_eq (read 4 (to + 8 * r.done) i.flash) e) x y ≡ choose b x y
        picked b v3 x y e3 h = ap (λ b. choose b x y) (ap (λ v. nat_eq v e) (sym e3) ∙ h)

        tested : (v3 : ℕ) → v3 ≡ read 4 (to + 8 * r.done) i.flash → (b : Bool) → nat_eq v3 e ≡ b → W 11 (Test Eq 3 4 (Load Word 5 7 target_compartment ▸ End) End ▸ next_target) [] (core msp psp q u m a0 a1 a2 v3 e (chosen i.flash to e r.done) (suc n) r.v7) Done
        tested v3 e3 true h =
            yes_within h
            (flash_word_within premises (to + 8 * r.done) 1 off r.at (here_aligned r.done) (here_room r.done 1 r.all_of (omega arith)) (λ v5 e5.
            next_within (tail_within v3 v5 (e5 ∙ sym (picked true v3 (read 4 (to + 8 * r.done + 4) i.flash) (chosen i.flash to e r.done) e3 h)))))
        tested v3 e3 false h =
            more_within
            (no_within h (next_within (tail_within v3 (chosen i.flash to e r.done) (sym (picked false v3 (read 4 (to + 8 * r.done + 4) i.flash) (chosen i.flash to e r.done) e3 h))))) (omega arith)

    -- the entry is the caller's r12
    pub target_within : (first count to o top : ℕ) {b : ℕ} {s : PrivilegedSteps} {ks : List PrivilegedSteps} {Q : Outcome → Type 0} {q : ProtectionState} {m : List ℕ} {a1 a2 a3 a4 a7 : ℕ} → IsOff true q → psp ≡ i.ram_base + o → InStack i t o top → i.ram_base + (o + 32) ≤ entry_top → read 4 (t.monitor - i.ram_base + 4) m ≡ top → HasTargets premises.installed first count to →
        ((d : Core) → d.ram ≡ m → chosen i.flash to (read 4 (o + 16) m) count ≡ 0xFFFFFFFF → Q (Halted 3 d)) →
        ((v4 v7 : ℕ) → chosen i.flash to (read 4 (o + 16) m) count ≢ 0xFFFFFFFF → W b s ks (core msp psp q u m psp a1 a2 0xFFFFFFFF v4 (chosen i.flash to (read 4 (o + 16) m) count) 0 v7) Q) →
        W (25 + 16 * count + b) (target k s) ks (core msp psp q u m psp a1 a2 a3 a4 first count a7) Q
    target_within first count to o top {b} {s} {ks} {Q} {q} {m} {a1} {a2} {a3} off ep io below et h refuse f =
        more_within
        (frame_load_within premises o top 4 off io below ep refl et (λ v4 e4.
        const_within (alu_within (λ x ex.
        let x8 : x ≡ 8 * first = shl3 first x ex (low28 first h.first_low) in
        const_within (alu_within (λ v7 e7.
        let r7 : v7 ≡ i.flash_base + (to + 8 * 0) = pointer v7 x e7 x8 in
        const_within
        (at_within (ap (λ x. core msp psp q u m psp a1 a2 a3 x 0xFFFFFFFF count v7) e4)
        (loop_within (Turning q m psp a1 a2 (read 4 (o + 16) m) to count) (λ n. 12) (λ n. 3 + 16 * n) count (omega arith) (λ n. omega arith)
        (λ n c r. ap (λ c. low_register c 6) r.is)
        (λ n c r. turn_within q m psp a1 a2 (read 4 (o + 16) m) to count n c off h.aligned h.room h.few r)
        h.few
        (record { done = 0; all_of = zero-add count; v3 = a3; v7 = v7; at = r7; is = refl })
        (λ d r. at_within r.is
        (const_within
        (must_not_within (λ y. refuse _ refl (sym (chosen_is r.done r.all_of) ∙ eqb-true _ _ y)) (λ y.
        at_within (ap (λ x. core msp psp q u m psp a1 a2 0xFFFFFFFF (read 4 (o + 16) m) x 0 r.v7) (chosen_is r.done r.all_of)) (f (read 4 (o + 16) m) r.v7 (λ z. eq_false _ _ y (chosen_is r.done r.all_of ∙ z))))))))))))))) (omega arith)
      where
        low28 : (n : ℕ) → n < 2 ^ 24 → n < 2 ^ 28
        low28 n x = omega (arith, x)

        pointer : (v x : ℕ) → v ≡ add k.targets_at x → x ≡ 8 * first → v ≡ i.flash_base + (to + 8 * 0)
        pointer v x a b =
            let e = h.at in let r = h.room in let f = p.rules.flash_highest in let z = p.rules.flash_most in
            omega (arith, a, b, e, r, f, z)

        chosen_is : (n : ℕ) → n + 0 ≡ count → chosen i.flash to (read 4 (o + 16) m) n ≡ chosen i.flash to (read 4 (o + 16) m) count
        chosen_is n x = let z : n ≡ count = omega (arith, x) in ap (λ n. chosen i.flash to (read 4 (o + 16) m) n) z

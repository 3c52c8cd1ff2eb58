-- A part of enter: the new TOP, or halt 5 where no eighth is left for the caller.
use Rattle.std.proofs.Common.{◌≡◌, ◌≢◌, ℕ, zero, suc, ◌+◌, ◌-◌, ◌*◌, ◌/◌, ◌%◌, ◌^◌, ◌<◌, ◌≤◌, List, refl, sym, ap, ◌∙◌, subst, arith}
use Rattle.std.proofs.Math.Nat.{div-mul-le_self}
use Rattle.std.proofs.lemmas.Bool.{eqb-true}
use Rattle.base_words.specs.Arithmetic.{add, subtract, shift_left}
use Rattle.machine_model.specs.declared.state.ProtectionState.{ProtectionState}
use Rattle.machine_model.specs.declared.state.FaultStatus.{FaultStatus}
use Rattle.machine_model.specs.State.{by_mpu}
use Rattle.monitor_steps.specs.Steps.{PrivilegedSteps}
use Rattle.monitor_steps.specs.Core.{Core}
use Rattle.monitor_steps.specs.Effect.{Outcome, Halted}
use Rattle.monitor_steps.proofs.Within.{GivesWithin, const_within, alu_within, at_within, more_within, must_not_within}
use Rattle.monitor_model.specs.Records.{stack_end, eighth, rounded as rounded_down}
use Rattle.monitor_program.specs.Constants.{Constants, constants_with}
use Rattle.monitor_program.specs.Svc.{rounded}
use Rattle.monitor_laws.proofs.Numbers.{shr_by}
use Rattle.monitor_laws.proofs.Off.{core}
use Rattle.monitor_laws.proofs.Opened.{eq_false, HandlerPremises}
use Rattle.monitor_laws.proofs.Placement.{writable}
use Rattle.monitor_laws.proofs.Tables.{StackSize, stack_size}

-- by an eighth's exponent
shl_by : (x e y : ℕ) → y ≡ shift_left x e → e < 256 → x * 2 ^ e < 2 ^ 32 → y ≡ x * 2 ^ e
unfolding shift_left
shl_by x e y h lt small =
    let z : e % 256 ≡ e = omega (arith, lt) in
    let a : y ≡ x * 2 ^ e % 2 ^ 32 = h ∙ ap (λ n. x * 2 ^ n % 2 ^ 32) z in
    let b : x * 2 ^ e % 2 ^ 32 ≡ x * 2 ^ e = omega (arith, small) in
    a ∙ b

module _ (premises : HandlerPremises) where
  open premises use {installed, installed.{image as i, tables as t, placed as p, stub}, Good, Allowed}

  abbrev k : Constants
  k = constants_with stub t

  abbrev W : ℕ → PrivilegedSteps → List PrivilegedSteps → Core → (Outcome → Type 0) → Type 0
  W n s ks c Q = GivesWithin by_mpu i Good Allowed n s ks c Q

  size_is : StackSize t.stack.size
  size_is = stack_size t.stack.size (writable installed).stack_size

  module _ {msp psp : ℕ} {u : FaultStatus} where
    -- of a frame in the stack
    pub rounded_within : {b : ℕ} {s : PrivilegedSteps} {ks : List PrivilegedSteps} {Q : Outcome → Type 0} {q : ProtectionState} {m : List ℕ} {a1 a3 a4 a5 a6 a7 : ℕ} → t.stack.base ≤ psp → psp ≤ stack_end t →
        ((d : Core) → d.ram ≡ m → rounded_down t psp ≡ t.stack.base → Q (Halted 5 d)) →
        (0 < (psp - t.stack.base) / eighth t → W b s ks (core msp psp q u m psp a1 k.stack (rounded_down t psp) a4 a5 0 a7) Q) →
        W (25 + b) (rounded k s) ks (core msp psp q u m psp a1 k.stack a3 a4 a5 a6 a7) Q
    rounded_within {b} {s} {ks} {Q} {q} {m} {a1} {a4} {a5} {a7} lo hi refuse f =
        more_within
        (alu_within (λ d ed.
        let de : d ≡ psp - t.stack.base = distance d ed in
        const_within (alu_within (λ x ex.
        let xe : x ≡ (psp - t.stack.base) / eighth t = shr_by d k.eighth x ex low256 ∙ ap (λ d. d / 2 ^ k.eighth) de ∙ ap (λ e. (psp - t.stack.base) / e) size_is.power in
        alu_within (λ y ey.
        let ye : y ≡ (psp - t.stack.base) / eighth t * eighth t = shl_by x k.eighth y ey low256 (subst (λ z. z < 2 ^ 32) (sym (product x xe)) below) ∙ product x xe in
        const_within
        (must_not_within (λ z. refuse _ refl (none_left y ye (eqb-true _ _ z))) (λ z.
        alu_within (λ n en.
        at_within (ap (λ n. core msp psp q u m psp a1 k.stack n a4 a5 0 a7) (sum_is n y en ye)) (f (some y ye (eq_false _ _ z))))))))))) (omega arith)
      where
        stack_is : k.stack ≡ t.stack.base
        stack_is = let a = (writable installed).stack_inside.1 in let x = p.rules.ram_highest in let y = p.rules.ram_most in omega (arith, a, x, y)

        high : stack_end t < 2 ^ 32
        high = let a = (writable installed).stack_inside.1 in let x = p.rules.ram_highest in let y = p.rules.ram_most in omega (arith, a, x, y)

        low256 : k.eighth < 256
        low256 = let e = size_is.exponent in omega (arith, e)

        distance : (d : ℕ) → d ≡ subtract psp k.stack → d ≡ psp - t.stack.base
        distance d e = let s = stack_is in let h = high in omega (arith, e, s, h, lo, hi)

        product : (x : ℕ) → x ≡ (psp - t.stack.base) / eighth t → x * 2 ^ k.eighth ≡ (psp - t.stack.base) / eighth t * eighth t
        product x e = ap (λ x. x * 2 ^ k.eighth) e ∙ ap (λ z. (psp - t.stack.base) / eighth t * z) size_is.power

        at_most : (psp - t.stack.base) / eighth t * eighth t ≤ psp - t.stack.base
        at_most = div-mul-le_self (psp - t.stack.base) (eighth t)

        below : (psp - t.stack.base) / eighth t * eighth t < 2 ^ 32
        below = let a = at_most in let h = high in omega (arith, a, h, hi)

        none_left : (y : ℕ) → y ≡ (psp - t.stack.base) / eighth t * eighth t → y ≡ 0 → rounded_down t psp ≡ t.stack.base
        none_left y a b = omega (arith, a, b)

        some : (y : ℕ) → y ≡ (psp - t.stack.base) / eighth t * eighth t → y ≢ 0 → 0 < (psp - t.stack.base) / eighth t
        some y a b = positive ((psp - t.stack.base) / eighth t) (eighth t) (λ e. b (a ∙ e))
          where
            positive : (n e : ℕ) → (n * e ≡ 0 → ⊥) → 0 < n
            positive zero e h = absurd (h (grind arith))
            positive (suc n) e h = omega arith

        sum_is : (n y : ℕ) → n ≡ add y k.stack → y ≡ (psp - t.stack.base) / eighth t * eighth t → n ≡ rounded_down t psp
        sum_is n y a b = let c = at_most in let s = stack_is in let h = high in omega (arith, a, b, c, s, h, lo, hi)

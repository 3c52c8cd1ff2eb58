-- The end of both handlers, and the list of unlend.
use Rattle.std.proofs.Common.{◌≡◌, ◌≢◌, ℕ, ◌+◌, ◌-◌, true, List, length, refl, sym, ap, ◌∙◌, arith}
use Rattle.std.proofs.lemmas.Bool.{eqb-true}
use Rattle.base_words.specs.Arithmetic.{subtract}
use Rattle.base_words.specs.Bytes.{read, write}
use Rattle.machine_protection.specs.declared.TheConstants.{MPU_CTRL}
use Rattle.machine_model.specs.declared.state.ProtectionState.{ProtectionState}
use Rattle.machine_model.specs.declared.state.FaultStatus.{FaultStatus}
use Rattle.machine_model.specs.State.{by_mpu}
use Rattle.monitor_steps.specs.Steps.{PrivilegedSteps}
use Rattle.monitor_steps.specs.Core.{Core}
use Rattle.monitor_steps.specs.Effect.{Outcome, Halted, AtReturn}
use Rattle.monitor_steps.proofs.Within.{GivesWithin, const_within, alu_within, more_within, must_not_within, return_within}
use Rattle.monitor_program.specs.Constants.{Constants, constants_with}
use Rattle.monitor_program.specs.Opening.{closed_up}
use Rattle.monitor_program.specs.Svc.{unlend}
use Rattle.monitor_laws.proofs.Off.{core, with_unit, IsOff, set_control_within}
use Rattle.monitor_laws.proofs.Opened.{eq_false, block_load_within, block_store_within, HandlerPremises}

module _ (premises : HandlerPremises) where
  open premises use {installed.{image as i, tables as t, placed as p, stub}, Good, Allowed, handles, good}

  abbrev k : Constants
  k = constants_with stub t

  abbrev W : ℕ → PrivilegedSteps → List PrivilegedSteps → Core → (Outcome → Type 0) → Type 0
  W n s ks c Q = GivesWithin by_mpu i Good Allowed n s ks c Q

  abbrev block : ℕ
  block = t.monitor - i.ram_base

  module _ {msp psp : ℕ} {u : FaultStatus} where
    -- the unit on again, and the exception return
    pub closed_within : {ks : List PrivilegedSteps} {Q : Outcome → Type 0} {q : ProtectionState} {m : List ℕ} {a0 a1 a2 a3 a4 a5 a6 a7 : ℕ} → IsOff true q → Good (with_unit q (record q.mpu { control = 5 })) →
        ((q1 : ProtectionState) → q1 ≡ with_unit q (record q.mpu { control = 5 }) → Q (AtReturn (core msp psp q1 u m a0 a1 a2 a3 a4 a5 MPU_CTRL 5))) →
        W 7 closed_up ks (core msp psp q u m a0 a1 a2 a3 a4 a5 a6 a7) Q
    closed_within off on f =
        more_within
        (set_control_within i p.rules Good Allowed true handles.plain good 5 off.mode off.privileged (omega arith) on (λ q1 e.
        return_within (f q1 e))) (omega arith)

    -- the last loan ends, where LOANS is not MARK; else halt 6
    pub unlend_within : {ks : List PrivilegedSteps} {Q : Outcome → Type 0} {q : ProtectionState} {m : List ℕ} {a0 a2 a3 a4 a5 a6 a7 : ℕ} → IsOff true q → Good (with_unit q (record q.mpu { control = 5 })) →
        ((d : Core) → d.ram ≡ m → read 4 (block + 12) m ≡ read 4 (block + 16) m → Q (Halted 6 d)) →
        ((q1 : ProtectionState) (new : List ℕ) (v4 : ℕ) → q1 ≡ with_unit q (record q.mpu { control = 5 }) → read 4 (block + 12) m ≢ read 4 (block + 16) m → new ≡ write 4 (block + 12) (subtract (read 4 (block + 12) m) 1) m → length new ≡ length m →
        Q (AtReturn (core msp psp q1 u new a0 k.block a2 a3 v4 1 MPU_CTRL 5))) →
        W 24 unlend ks (core msp psp q u m a0 k.block a2 a3 a4 a5 a6 a7) Q
    unlend_within {ks} {Q} {m} off on refuse go =
        more_within
        (block_load_within premises 3 off refl refl (λ x ex.
        block_load_within premises 4 off refl refl (λ y ey.
        must_not_within (λ e. refuse _ refl (sym ex ∙ eqb-true _ _ e ∙ ey)) (λ e.
        const_within (alu_within (λ v ev.
        block_store_within premises 3 off refl refl (λ new en ln.
        closed_within off on (λ q1 e1.
        go q1 new v e1 (λ z. eq_false _ _ e (ex ∙ z ∙ sym ey)) (en ∙ ap (λ v. write 4 (block + 12) v m) (ev ∙ ap (λ x. subtract x 1) ex)) ln)))))))) (omega arith)

-- What the answer of a machine's step says of its state and of its event.
use Rattle.std.proofs.Common.{◌≡◌, ℕ, zero, suc, ◌≤◌, Bool, Some, None, refl, sym, subst, ◌∙◌, arith}
use Rattle.base_words.specs.Runs.{run}
use Rattle.machine_devices.specs.declared.image.Image.{Image}
use Rattle.base_events.specs.declared.event.Event.{Event}
use Rattle.machine_model.specs.declared.state.End.{End}
use Rattle.machine_model.specs.declared.state.End.TheVariants.{Halt, InputEnd, Limit, Stop, Refused}
use Rattle.machine_emulator.specs.declared.Step.TheVariants.{Ran, Event as Told, Ended}
use Rattle.machine_model.specs.State.{State, by_mpu}
use Rattle.machine_model.specs.Step.{turn, step, event}
use Rattle.machine_model.specs.Ends.{IsOwn}
use Rattle.machine_emulator.proofs.StepAnswers.{quiet_by, tells_by, ended_by}
use Rattle.machine_emulator.specs.Machine.{MachineState, answer, IsRun, IsEndOf}

-- the machine goes on, and made no event
pub quiet : (i : Image) (s : State) → Ran ≡ answer (turn by_mpu i s) → ((step i s).ending ≡ None) × (event i s ≡ None)
quiet i s h = quiet_by (step i s).ending (event i s) h

-- the machine goes on, and made this event
pub tells : (i : Image) (s : State) (x : Event) → Told x ≡ answer (turn by_mpu i s) → ((step i s).ending ≡ None) × (event i s ≡ Some x)
tells i s x h = tells_by (step i s).ending (event i s) x h

-- the machine has ended
pub ended : (i : Image) (s : State) (e : End) → Ended e ≡ answer (turn by_mpu i s) → (step i s).ending ≡ Some e
ended i s e h = ended_by (step i s).ending (event i s) e h

-- ---- no step at all

module _ {A : Type 0} (calls : A → Event → Bool → A → Type 0) (m n : MachineState) (f g : A) where
  run_of_none : (i : Image) (s : State) (k : ℕ) → k ≤ 0 → run (step i) k s ≡ s
  unfolding run
  run_of_none i s zero l = refl
  run_of_none i s (suc k) l = let x : ⊥ = omega arith in absurd x

  -- the machine stays
  pub idle : (e : End) → IsRun calls 0 m n f g e → n ≡ m
  idle e r =
      let q : n.state ≡ m.state = sym r.leads ∙ run_of_none m.image m.state r.steps r.few in
      λ i. record { image = r.same_image i; state = q i }

  own_by : (k : ℕ) (e : End) → k ≤ 0 → (e ≡ Limit → ⊥) → IsEndOf calls m.image 0 k m.state n.state f g e → (n.state.ending ≡ Some e) × IsOwn e
  own_by k (Halt c) l other h = (h.0, tt)
  own_by k InputEnd l other h = (h.0, tt)
  own_by k Limit l other h = absurd (other refl)
  own_by k (Stop q a) l other h = (h.0, tt)
  own_by k Refused l other h = let last = h.1.last in let x : ⊥ = omega arith in absurd x

  -- an answer other than the limit is the machine's own end
  pub idle_ended : (e : End) → (e ≡ Limit → ⊥) → IsRun calls 0 m n f g e → (n.state.ending ≡ Some e) × IsOwn e
  idle_ended e other r = own_by r.steps e r.few other r.says

  -- and where it is the limit the machine goes on
  pub idle_going : (e : End) → e ≡ Limit → IsRun calls 0 m n f g e → n.state.ending ≡ None
  idle_going e is r = (subst (IsEndOf calls m.image 0 r.steps m.state n.state f g) is r.says).1

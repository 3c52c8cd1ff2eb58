-- Runs of a machine, by what its steps answer.
use Rattle.std.proofs.Common.{◌≡◌, ℕ, ◌+◌, ◌<◌, List, [], ◌∷◌, ◌++◌, Option, Some, None, inl, inr, refl, ap, sym, ◌∙◌, arith}
use Rattle.machine_devices.specs.declared.image.Image.{Image}
use Rattle.base_events.specs.declared.event.Event.{Event}
use Rattle.machine_model.specs.declared.state.End.{End}
use Rattle.machine_emulator.specs.declared.Step.{Step}
use Rattle.machine_emulator.specs.declared.Step.TheVariants.{Ran, Event as Told, Ended}
use Rattle.machine_emulator.specs.Machine.{MachineState, answer, answer_by}
use Rattle.machine_emulator.proofs.StepAnswers.{quiet_by as quiet_of, tells_by as tells_of, ended_by as ended_of}
use Rattle.machine_model.specs.State.{State, Turn, by_mpu}
use Rattle.machine_model.specs.Step.{turn, step, event}
use Rattle.machine_model.specs.Ends.{EndsOrGoesOn, StepsEndOrGoOn}
use Rattle.aces_selftest.specs.declared.machines.MachineCount.{MachineCount}
use Rattle.aces_selftest.specs.TakesSteps.{machine_ending_of}
use Rattle.aces_selftest.specs.Counts.{IsMachineCount}
use Rattle.aces_selftest.proofs.Going.{Going, Ending, not_begun, quiet, tells, ended}

-- of a machine that had not ended, a step by which it ends has no event
silent_by : (s : State) (t : Turn) (e : End) → s.ending ≡ None → EndsOrGoesOn s t → t.to.ending ≡ Some e → t.event ≡ None
silent_by s t e goes (inl q) h = let wrong : None ≡ Some e = sym goes ∙ sym q ∙ h in cc
silent_by s t e goes (inr m) h = ap (λ (u : Turn). u.event) m.2

-- ---- a machine of an image

-- it has made so many steps from a state on, has not ended, and has told this
pub record Runs (i : Image) (s : State) (n : ℕ) (m : MachineState) (told : List Event) : Type 0 where
  pub image : m.image ≡ i
  pub going : Going machine_ending_of (step i) (event i) s n m.state told

pub begun : (m : MachineState) → m.state.ending ≡ None → Runs m.image m.state 0 m []
begun m h = record { image = refl; going = not_begun machine_ending_of (step m.image) (event m.image) m.state h }

module _ (i : Image) (s : State) (n : ℕ) (old new : MachineState) (told : List Event) (h : Runs i s n old told)
    (steps : new ≡ record old { state = step old.image old.state }) (a : Step) (says : a ≡ answer (turn by_mpu old.image old.state)) where
  same_image : new.image ≡ i
  same_image = ap (λ (m : MachineState). m.image) steps ∙ h.image

  leads : step i old.state ≡ new.state
  leads = ap (λ j. step j old.state) (sym h.image) ∙ sym (ap (λ (m : MachineState). m.state) steps)

  says_here : a ≡ answer_by (step i old.state).ending (event i old.state)
  says_here = says ∙ ap (λ j. answer (turn by_mpu j old.state)) h.image

  ending_there : (o : Option End) → (step i old.state).ending ≡ o → machine_ending_of new.state ≡ o
  ending_there o e = sym (ap machine_ending_of leads) ∙ e

  pub ran : a ≡ Ran → Runs i s (n + 1) new told
  ran e =
      let q = quiet_of (step i old.state).ending (event i old.state) (sym e ∙ says_here) in
      record { image = same_image; going = quiet machine_ending_of (step i) (event i) s n old.state new.state told h.going leads q.1 (ending_there None q.0) }

  pub told_of : (x : Event) → a ≡ Told x → Runs i s (n + 1) new (told ++ x ∷ [])
  told_of x e =
      let q = tells_of (step i old.state).ending (event i old.state) x (sym e ∙ says_here) in
      record { image = same_image; going = tells machine_ending_of (step i) (event i) s n old.state new.state told h.going leads x q.1 (ending_there None q.0) }

  goes_here : old.state.ending ≡ None
  goes_here = ap machine_ending_of h.going.state ∙ h.going.goes n (omega arith)

  pub ended_by : StepsEndOrGoOn → (limit : ℕ) (e : End) → n < limit → a ≡ Ended e → Ending machine_ending_of (step i) (event i) limit s (n + 1) (Some e) told
  ended_by law limit e more is =
      let q = ended_of (step i old.state).ending (event i old.state) e (sym is ∙ says_here) in
      ended machine_ending_of (step i) (event i) s n old.state new.state told h.going leads limit e more
      (silent_by old.state (turn by_mpu i old.state) e goes_here (law by_mpu i old.state) q) (ending_there (Some e) q)

-- what is counted of a run that has ended, or made all its steps
pub counted : (i : Image) (limit : ℕ) (s : State) (count : MachineCount)
    → Ending machine_ending_of (step i) (event i) limit s count.steps count.end count.events.items → IsMachineCount i limit s count
counted i limit s count h = record { takes = h.takes; events = h.events; end = h.end }

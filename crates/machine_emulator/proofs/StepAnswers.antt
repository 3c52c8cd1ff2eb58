-- What the answer of a step says of the turn's end and event, and the event of a step that ends the machine.
use Rattle.std.proofs.Common.{◌≡◌, Option, Some, None, refl, ap, sym, subst, ◌∙◌, inl, inr}
use Rattle.machine_devices.specs.declared.image.Image.{Image}
use Rattle.base_events.specs.declared.event.Event.{Event}
use Rattle.machine_model.specs.declared.state.End.{End}
use Rattle.machine_emulator.specs.declared.Step.TheVariants.{Ran, Event as Told, Ended}
use Rattle.machine_model.specs.State.{State, Turn, by_mpu}
use Rattle.machine_model.specs.Step.{turn, step, event}
use Rattle.machine_model.specs.Ends.{IsOwn, EndsOrGoesOn}
use Rattle.machine_emulator.specs.Machine.{HasOwn, answer_by}
use Rattle.machine_model.proofs.Runs.{told_ended}
use Rattle.machine_model.proofs.Ends.{steps_end_or_go_on}

pub quiet_by : (o : Option End) (x : Option Event) → Ran ≡ answer_by o x → (o ≡ None) × (x ≡ None)
quiet_by (Some e) x h = cc
quiet_by None (Some x) h = cc
quiet_by None None h = (refl, refl)

pub tells_by : (o : Option End) (x : Option Event) (y : Event) → Told y ≡ answer_by o x → (o ≡ None) × (x ≡ Some y)
tells_by (Some e) x y h = cc
tells_by None None y h = cc
tells_by None (Some x) y h = (refl, cc)

pub ended_by : (o : Option End) (x : Option Event) (e : End) → Ended e ≡ answer_by o x → o ≡ Some e
ended_by (Some d) x e h = cc
ended_by None (Some x) e h = cc
ended_by None None e h = cc

silent_by : (s : State) (t : Turn) (e : End) → EndsOrGoesOn s t → t.to.ending ≡ Some e → (s.ending ≡ Some e → t.event ≡ None) → t.event ≡ None
silent_by s t e (inl q) h k = k (sym q ∙ h)
silent_by s t e (inr m) h k = ap (λ (u : Turn). u.event) m.2

-- a step that ends the machine makes no event
pub silent : (i : Image) (s : State) (e : End) → (step i s).ending ≡ Some e → event i s ≡ None
silent i s e h = silent_by s (turn by_mpu i s) e (steps_end_or_go_on by_mpu i s) h (told_ended by_mpu i s e)

-- the end of a machine is its own
pub own_of : (o : Option End) (e : End) → HasOwn o → o ≡ Some e → IsOwn e
own_of None e h q = cc
own_of (Some d) e h q = let p : d ≡ e = cc in subst IsOwn p h

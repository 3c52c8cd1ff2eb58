-- Machines stay machines, and runs of their steps.
use Rattle.std.proofs.Common.{◌≡◌, ℕ, List, length, Option, sym, subst, inl, inr}
use Rattle.machine_devices.specs.declared.image.Image.{Image}
use Rattle.machine_devices.specs.Rules.{ObeysRules}
use Rattle.base_events.specs.declared.event.Event.{Event}
use Rattle.machine_emulator.specs.declared.parts.Parts.{Parts}
use Rattle.machine_model.specs.State.{State, Turn, by_mpu}
use Rattle.machine_model.specs.Step.{turn}
use Rattle.machine_model.specs.Run.{start}
use Rattle.machine_emulator.specs.Parts.{left, left_by, state_of, Left}
use Rattle.machine_model.specs.Ends.{EndsOrGoesOn}
use Rattle.machine_emulator.specs.Machine.{IsMachine, HasOwn}
use Rattle.machine_emulator.specs.declared.flash_code.FlashCode.{FlashCode}
use Rattle.machine_emulator.specs.Code.{IsCodeOf}
use Rattle.machine_model.proofs.ShapeSteps.{steps_keep_shape, start_fits}
use Rattle.machine_model.proofs.Ends.{steps_end_or_go_on}

own_after : (s : State) (t : Turn) → HasOwn s.ending → EndsOrGoesOn s t → HasOwn t.to.ending
own_after s t h (inl e) = rw e h
own_after s t h (inr m) = rw m.2 m.1

stays : (i : Image) (s : State) → IsMachine (record { image = i; state = s }) → IsMachine (record { image = i; state = (turn by_mpu i s).to })
stays i s h = record {
  rules = h.rules;
  fits = steps_keep_shape by_mpu i s h.rules h.fits;
  own = own_after s (turn by_mpu i s) h.own (steps_end_or_go_on by_mpu i s);
}

pub stays_machine : (i : Image) (s : State) (p : Parts) (e : Option Event) → IsMachine (record { image = i; state = s }) → left p e ≡ left_by i (turn by_mpu i s) → IsMachine (record { image = p.bus.image; state = state_of p })
stays_machine i s p e h q =
    let P : Left → Type 0 = λ l. IsMachine (record { image = l.image; state = l.state }) in
    subst P (sym q) (stays i s h)

pub starts : (i : Image) (queues : List (List ℕ)) (fill : ℕ) → ObeysRules i → length queues ≡ length i.windows → IsMachine (record { image = i; state = start i queues fill })
unfolding start
starts i queues fill r q = record { rules = r; fits = start_fits i queues fill q; own = tt }

pub same_code : (c : FlashCode) (i j : Image) → j ≡ i → IsCodeOf i c → IsCodeOf j c
same_code c i j e h = subst (λ k. IsCodeOf k c) (sym e) h

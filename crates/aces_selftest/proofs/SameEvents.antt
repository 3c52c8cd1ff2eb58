-- The test of two events says whether they are the same.
use mathlib.Core.Bool.{beq}
use Rattle.std.proofs.Common.{◌≡◌, ℕ, Bool, true, false, ◌&&◌, eqb, refl, sym, ap, ◌∙◌}
use Rattle.std.specs.Bool.{Decides}
use Rattle.std.proofs.lemmas.Bool.Decides.{Decides-eqb, Decides-and, Decides-like}
use Rattle.base_events.specs.declared.event.Event.{Event}

Decides-beq : (a b : Bool) → Decides (beq a b) (a ≡ b)
Decides-beq true true = (λ _. refl, λ _. refl)
Decides-beq true false = (λ e. sym e, λ e. sym e)
Decides-beq false true = (λ e. e, λ e. e)
Decides-beq false false = (λ _. refl, λ _. refl)

abbrev event : (compartment periph offset width : ℕ) → (write : Bool) → (value : ℕ) → Event
event c p o w t v = record { compartment = c; periph = p; offset = o; width = w; write = t; value = v }

abbrev Parts : Event → Event → Type 0
Parts a b =
    (a.compartment ≡ b.compartment)
    × ((a.periph ≡ b.periph) × ((a.offset ≡ b.offset) × ((a.width ≡ b.width) × ((a.write ≡ b.write) × (a.value ≡ b.value)))))

joined : (a b : Event) → Parts a b → a ≡ b
joined a b (c, (p, (o, (w, (t, v))))) =
    ap (λ x. event x a.periph a.offset a.width a.write a.value) c
    ∙ ap (λ x. event b.compartment x a.offset a.width a.write a.value) p
    ∙ ap (λ x. event b.compartment b.periph x a.width a.write a.value) o
    ∙ ap (λ x. event b.compartment b.periph b.offset x a.write a.value) w
    ∙ ap (λ x. event b.compartment b.periph b.offset b.width x a.value) t
    ∙ ap (λ x. event b.compartment b.periph b.offset b.width b.write x) v

parted : (a b : Event) → a ≡ b → Parts a b
parted a b e = (
  ap (λ (x : Event). x.compartment) e,
  (
    ap (λ (x : Event). x.periph) e,
    (ap (λ (x : Event). x.offset) e, (ap (λ (x : Event). x.width) e, (ap (λ (x : Event). x.write) e, ap (λ (x : Event). x.value) e))),
  ),
)

abbrev test : Event → Event → Bool
test a b =
    eqb a.compartment b.compartment
    && (eqb a.periph b.periph && (eqb a.offset b.offset && (eqb a.width b.width && (beq a.write b.write && eqb a.value b.value))))

pub same_event : (a b : Event) → Decides (test a b) (a ≡ b)
same_event a b =
    Decides-like (test a b) (joined a b) (parted a b)
    (Decides-and _ _ (Decides-eqb a.compartment b.compartment)
    (Decides-and _ _ (Decides-eqb a.periph b.periph)
    (Decides-and _ _ (Decides-eqb a.offset b.offset)
    (Decides-and _ _ (Decides-eqb a.width b.width)
    (Decides-and _ _ (Decides-beq a.write b.write) (Decides-eqb a.value b.value))))))

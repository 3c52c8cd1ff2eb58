-- Each event of a machine is one of a window, and the names of windows are short.
use Rattle.std.proofs.Common.{◌≡◌, ℕ, zero, suc, ◌+◌, ◌-◌, ◌<◌, ◌≤◌, ◌⊎◌, inl, inr, Bool, true, false, List, [], ◌∷◌, length, Some, arith}
use Rattle.base_names.proofs.Lengths.{name_lengths}
use Rattle.machine_devices.specs.declared.image.Image.{Image}
use Rattle.machine_devices.specs.declared.image.Window.{Window}
use Rattle.base_events.specs.declared.event.Event.{Event}
use Rattle.machine_bus.specs.Locations.{Location, InRam, InFlash, InWindow, inside, choose, find_window, location}
use Rattle.machine_devices.specs.Rules.{ObeysRules, AreWindows}
use Rattle.machine_model.specs.State.{State, Touched, by_mpu}
use Rattle.machine_model.specs.Step.{turn, event}
use Rattle.machine_model.specs.Confinement.{AnyOf, EventsAreListed}
use Rattle.machine_lines.specs.Lines.{name_of}

some_of : {A : Type 0} (P : A → Type 0) (xs : List A) → AnyOf P xs → (x : A) × P x
some_of P [] h = absurd h
some_of P (x ∷ xs) (inl h) = (x, h)
some_of P (x ∷ xs) (inr h) = some_of P xs h

chosen_window : (b : Bool) (q r : Location) (p o : ℕ) → choose b q r ≡ InWindow p o → (q ≡ InWindow p o) ⊎ (r ≡ InWindow p o)
chosen_window true q r p o h = inl h
chosen_window false q r p o h = inr h

window_number : (ws : List Window) (k a p o : ℕ) → find_window ws k a ≡ InWindow p o → p < k + length ws
unfolding find_window
window_number [] k a p o h = let f : ⊥ = cc in absurd f
window_number (w ∷ ws) k a p o h =
    elim (chosen_window (inside w.base w.size a) (InWindow k (a - w.base)) (find_window ws (suc k) a) p o h) [
      | inl e ↦ (let q : k ≡ p = cc in omega arith)
      | inr e ↦ (let q : p < suc k + length ws = window_number ws (suc k) a p o e in omega arith)
    ]

placed_window : (i : Image) (a p o : ℕ) → location i a ≡ InWindow p o → p < length i.windows
unfolding location
placed_window i a p o h =
    elim (chosen_window (inside i.ram_base i.ram_size a) (InRam (a - i.ram_base)) _ p o h) [
      | inl e ↦ (let f : ⊥ = cc in absurd f)
      | inr e ↦ (
          elim (chosen_window (inside i.flash_base (length i.flash) a) (InFlash (a - i.flash_base)) (find_window i.windows 0 a) p o e) [
            | inl f ↦ (let g : ⊥ = cc in absurd g)
            | inr f ↦ (let q : p < 0 + length i.windows = window_number i.windows 0 a p o f in omega arith)
          ])
    ]

-- an event is one of a window
pub event_known : EventsAreListed → (i : Image) (s : State) (e : Event) → event i s ≡ Some e → e.periph < length i.windows
event_known law i s e h =
    let t = turn by_mpu i s in
    let x = some_of (λ (x : Touched). (x.width ≡ e.width) × (location i x.address ≡ InWindow e.periph e.offset)) (choose e.write t.stores t.loads) (law by_mpu i s e h) in
    placed_window i x.0.address e.periph e.offset x.1.1

short_at : (ws : List Window) (k : ℕ) → AreWindows ws → length (name_of ws k) ≤ 64
short_at [] k h = let e : 0 ≤ 64 = omega arith in e
short_at (w ∷ ws) zero h = (name_lengths w.name h.0.named).1
short_at (w ∷ ws) (suc k) h = short_at ws k h.2

-- and the window's name has at most 64 bytes
pub name_is_short : (i : Image) (k : ℕ) → ObeysRules i → length (name_of i.windows k) ≤ 64
name_is_short i k h = short_at i.windows k h.windows

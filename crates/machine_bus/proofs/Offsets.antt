-- Places of RAM and of flash by their offsets, both ways, and what is mapped in the mebibyte of flash.
use Rattle.std.specs.Prelude.{◌↔◌}
use Rattle.std.proofs.Common.{◌≡◌, ◌≢◌, ℕ, suc, ◌+◌, ◌-◌, ◌<◌, ◌≤◌, inl, inr, ⊎_elim, List, [], ◌∷◌, length, Bool, true, false, refl, ap, ◌∙◌, arith}
use Rattle.std.proofs.lemmas.Bool.{cases_lt}
use Rattle.machine_devices.specs.declared.image.Image.{Image}
use Rattle.machine_devices.specs.declared.image.Window.{Window}
use Rattle.machine_devices.specs.Rules.{ObeysRules, AreWindows}
use Rattle.machine_bus.specs.Locations.{Location, InRam, InFlash, InWindow, Nowhere, inside, choose, find_window, location}
use Rattle.machine_bus.specs.Access.{AnyWindowHolds, HoldsBytes}
use Rattle.machine_bus.proofs.Ranges.{inside_true}
use Rattle.machine_bus.proofs.Addresses.{location-ram, location-flash}
use Rattle.machine_bus.proofs.Placed.{holds_nowhere}

-- ---- from an offset to its location

pub in_ram : (i : Image) (a o : ℕ) → i.ram_base + o ≡ a → o < i.ram_size → location i a ≡ InRam o
in_ram i a o e h =
    let d : a - i.ram_base ≡ o = omega arith in
    location-ram i a (omega arith) (omega arith) ∙ ap InRam d

pub in_flash : (i : Image) (a o : ℕ) → ObeysRules i → i.flash_base + o ≡ a → o < length i.flash → location i a ≡ InFlash o
in_flash i a o r e h =
    let d : a - i.flash_base ≡ o = omega arith in
    location-flash i a r (omega arith) (omega arith) ∙ ap InFlash d

-- ---- from a location to its offset

-- a window's location, or none
abbrev IsOutside : Location → Type 0
IsOutside (InRam o) = ⊥
IsOutside (InFlash o) = ⊥
IsOutside (InWindow k o) = Unit {0}
IsOutside Nowhere = Unit {0}

outside_choice : (here : Bool) (k o : ℕ) (l : Location) → IsOutside l → IsOutside (choose here (InWindow k o) l)
outside_choice true k o l h = tt
outside_choice false k o l h = h

outside_windows : (ws : List Window) (k a : ℕ) → IsOutside (find_window ws k a)
unfolding find_window
outside_windows [] k a = tt
outside_windows (w ∷ ws) k a = outside_choice (inside w.base w.size a) k (a - w.base) (find_window ws (suc k) a) (outside_windows ws (suc k) a)

not_ram : (l : Location) (o : ℕ) → IsOutside l → l ≢ InRam o
not_ram (InRam p) o h e = h
not_ram (InFlash p) o h e = h
not_ram (InWindow k p) o h e = cc
not_ram Nowhere o h e = cc

not_flash : (l : Location) (o : ℕ) → IsOutside l → l ≢ InFlash o
not_flash (InRam p) o h e = h
not_flash (InFlash p) o h e = h
not_flash (InWindow k p) o h e = cc
not_flash Nowhere o h e = cc

ram_choice : (ram flash : Bool) (p q o : ℕ) (l : Location) → IsOutside l → choose ram (InRam p) (choose flash (InFlash q) l) ≡ InRam o → (ram ≡ true) × (p ≡ o)
ram_choice true f p q o l h e = let z : p ≡ o = cc in (refl, z)
ram_choice false true p q o l h e = cc
ram_choice false false p q o l h e = absurd (not_ram l o h e)

flash_choice : (ram flash : Bool) (p q o : ℕ) (l : Location) → IsOutside l → choose ram (InRam p) (choose flash (InFlash q) l) ≡ InFlash o → (flash ≡ true) × (q ≡ o)
flash_choice true f p q o l h e = cc
flash_choice false true p q o l h e = let z : q ≡ o = cc in (refl, z)
flash_choice false false p q o l h e = absurd (not_flash l o h e)

pub ram_at : (i : Image) (a o : ℕ) → location i a ≡ InRam o → (i.ram_base + o ≡ a) × (o < i.ram_size)
unfolding location
ram_at i a o e =
    let c = ram_choice (inside i.ram_base i.ram_size a) (inside i.flash_base (length i.flash) a) (a - i.ram_base) (a - i.flash_base) o (find_window i.windows 0 a) (outside_windows i.windows 0 a) e in
    let t = inside_true i.ram_base i.ram_size a c.0 in
    let d = c.1 in
    (omega (arith, t.0), omega (arith, t.0, t.1))

pub flash_at : (i : Image) (a o : ℕ) → location i a ≡ InFlash o → (i.flash_base + o ≡ a) × (o < length i.flash)
unfolding location
flash_at i a o e =
    let c = flash_choice (inside i.ram_base i.ram_size a) (inside i.flash_base (length i.flash) a) (a - i.ram_base) (a - i.flash_base) o (find_window i.windows 0 a) (outside_windows i.windows 0 a) e in
    let t = inside_true i.flash_base (length i.flash) a c.0 in
    let d = c.1 in
    (omega (arith, t.0), omega (arith, t.0, t.1))

pub ram_offsets : (i : Image) (a o : ℕ) → (location i a ≡ InRam o) ↔ ((i.ram_base + o ≡ a) × (o < i.ram_size))
ram_offsets i a o = (ram_at i a o, λ h. in_ram i a o h.0 h.1)

pub flash_offsets : (i : Image) (a o : ℕ) → ObeysRules i → (location i a ≡ InFlash o) ↔ ((i.flash_base + o ≡ a) × (o < length i.flash))
flash_offsets i a o r = (flash_at i a o, λ h. in_flash i a o r h.0 h.1)

-- ---- the mebibyte of flash

pub no_window : (ws : List Window) (a : ℕ) → AreWindows ws → a < 0x40000000 → AnyWindowHolds ws a 1 → ⊥
no_window [] a w lt h = h
no_window (x ∷ xs) a w lt (inl h) = let lo = w.0.range.place.0 in let b = h.0 in omega arith
no_window (x ∷ xs) a w lt (inr h) = no_window xs a w.2 lt h

pub flash_alone : (i : Image) (a : ℕ) → ObeysRules i → i.flash_base ≤ a → a < i.flash_base + 0x100000 → location i a ≢ Nowhere → location i a ≡ InFlash (a - i.flash_base)
flash_alone i a r lo hi mapped =
    ⊎_elim (λ lt. location-flash i a r lo lt) (λ le. absurd (mapped (holds_nowhere i a 1 r (inl refl) (omega arith) (none le)))) (cases_lt a (i.flash_base + length i.flash))
  where
    none : i.flash_base + length i.flash ≤ a → HoldsBytes i a 1 → ⊥
    none le (inl h) = let x = h.0 in let y = r.ram_lowest in let z = r.flash_highest in omega arith
    none le (inr (inl h)) = let x = h.1 in omega arith
    none le (inr (inr h)) = no_window i.windows a r.windows (let z = r.flash_highest in omega arith) h

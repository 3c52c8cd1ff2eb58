-- Beyond the program's claim: only laws, proofs and functions inside the tool cite this file.
-- What the place of an access's first byte says of all its bytes.
use Rattle.std.specs.Prelude.{◌≡◌, ℕ, ◌+◌, ◌≤◌, ◌⊎◌, List, [], ◌∷◌, length, slice_get, Some}
use Rattle.machine_devices.specs.declared.image.Image.{Image}
use Rattle.machine_devices.specs.declared.image.Window.{Window}
use Rattle.machine_bus.specs.Locations.{Location, InRam, InFlash, InWindow, Nowhere}
use Rattle.base_ranges.specs.Ranges.{IsInside}

-- the place that lies further on
abbrev pub further : ℕ → Location → Location
further n (InRam o) = InRam (o + n)
further n (InFlash o) = InFlash (o + n)
further n (InWindow k o) = InWindow k (o + n)
further n Nowhere = Nowhere

-- the window of this number has this many bytes from the offset on
abbrev pub HasBytes : List Window → (number offset width : ℕ) → Type 0
HasBytes windows k o width = (w : Window) × (slice_get windows k ≡ Some w) × (o + width ≤ w.size)

-- this many bytes lie at the place
abbrev pub Fits : Location → (width : ℕ) → Image → Type 0
Fits (InRam o) w i = o + w ≤ i.ram_size
Fits (InFlash o) w i = o + w ≤ length i.flash
Fits (InWindow k o) w i = HasBytes i.windows k o w
Fits Nowhere w i = Unit {0}

-- some window holds these bytes
abbrev pub AnyWindowHolds : List Window → (address width : ℕ) → Type 0
AnyWindowHolds [] a w = ⊥
AnyWindowHolds (x ∷ xs) a w = IsInside a w x.base x.size ⊎ AnyWindowHolds xs a w

-- RAM, flash or a window holds all these bytes
abbrev pub HoldsBytes : Image → (address width : ℕ) → Type 0
HoldsBytes i a w = IsInside a w i.ram_base i.ram_size ⊎ (IsInside a w i.flash_base (length i.flash) ⊎ AnyWindowHolds i.windows a w)

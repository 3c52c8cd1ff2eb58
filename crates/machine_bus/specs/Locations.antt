-- Where an address of a machine leads.
use Rattle.std.specs.Prelude.{ℕ, suc, ◌+◌, ◌-◌, List, [], ◌∷◌, length, Bool, true, false, not, ◌&&◌, nat_lt}
use Rattle.machine_protection.specs.declared.region.Access.{Access}
use Rattle.machine_protection.specs.declared.region.Access.TheVariants.{Read, Write, Fetch}
use Rattle.machine_devices.specs.declared.image.Image.{Image}
use Rattle.machine_devices.specs.declared.image.Window.{Window}

-- a byte of RAM, of flash, or of a window by its number; or nothing
pub data Location : Type 0 where
  InRam : (offset : ℕ) → Location
  InFlash : (offset : ℕ) → Location
  InWindow : (periph offset : ℕ) → Location
  Nowhere : Location

abbrev pub inside : (base size address : ℕ) → Bool
inside base size a = not (nat_lt a base) && nat_lt a (base + size)

-- the first where the test says yes, else the second
abbrev pub choose : {A : Type 0} → Bool → A → A → A
choose true x y = x
choose false x y = y

-- among windows, the first of which has this number
unfoldable pub find_window : List Window → (number address : ℕ) → Location
find_window [] k a = Nowhere
find_window (w ∷ ws) k a = choose (inside w.base w.size a) (InWindow k (a - w.base)) (find_window ws (suc k) a)

unfoldable pub location : Image → ℕ → Location
location i a =
    choose (inside i.ram_base i.ram_size a) (InRam (a - i.ram_base))
    (choose (inside i.flash_base (length i.flash) a) (InFlash (a - i.flash_base)) (find_window i.windows 0 a))

-- a location of memory that takes this kind of access; flash takes no stores
abbrev pub is_memory : Access → Location → Bool
is_memory kind (InRam o) = true
is_memory Read (InFlash o) = true
is_memory Write (InFlash o) = false
is_memory Fetch (InFlash o) = true
is_memory kind (InWindow k o) = false
is_memory kind Nowhere = false

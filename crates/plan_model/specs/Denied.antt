-- Ranges of addresses of devices that are denied to every compartment, and which of them another range meets.
use Rattle.std.specs.Prelude.{ℕ, ◌+◌, ◌<◌, ◌≤◌, Bool, ◌&&◌, List, Option, position, nat_lt}
use Rattle.base_names.specs.Names.{IsName}
use Rattle.base_ranges.specs.Ranges.{IsInside, peripherals_base, peripherals_size}
use Rattle.plan_model.specs.declared.denied_ranges.Denied.{Denied}

-- a range with a name, of one byte or more, in the peripherals' part of the memory map
pub record IsDenied (d : Denied) : Type 0 where
  pub named : IsName d.name
  pub some : 1 ≤ d.size
  pub place : IsInside d.base d.size peripherals_base peripherals_size

-- the address lies in the range
abbrev pub InDenied : Denied → (address : ℕ) → Type 0
InDenied d a = (d.base ≤ a) × (a < d.base + d.size)

-- `size` bytes from `base` on have an address in common with it
abbrev pub meets : (base size : ℕ) → Denied → Bool
meets base size d = nat_lt base (d.base + d.size) && nat_lt d.base (base + size)

-- the number of the first denied range that they meet
abbrev pub first_met : List Denied → (base size : ℕ) → Option ℕ
first_met ds base size = position (meets base size) ds

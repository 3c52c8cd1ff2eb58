-- The words of a region that is made for a block of memory and a kind of use, and what such a region means.
use Rattle.std.specs.Prelude.{◌≡◌, ℕ, ◌+◌, ◌-◌, ◌*◌, ◌/◌, ◌^◌, ◌<◌, ◌≤◌, Bool, true, false, not}
use Rattle.std.specs.Int.{bit_at, trailing_zeros, w32}
use Rattle.machine_protection.specs.declared.region.Region.{Region}
use Rattle.machine_protection.specs.declared.region.Access.{Access}
use Rattle.machine_protection.specs.declared.region.Access.TheVariants.{Read, Write, Fetch}
use Rattle.machine_protection.specs.declared.words.Rights.{Rights}
use Rattle.machine_protection.specs.declared.words.Rights.TheVariants.{Background, Code, Stack, Ram, Device}

-- MPU_RASR of such a use without SRD and SIZE: XN, AP, TEX with S, C and B, and ENABLE
abbrev pub rights_word : Rights → ℕ
rights_word Background = 0x12060001
rights_word Code = 0x06020001
rights_word Stack = 0x13060001
rights_word Ram = 0x13060001
rights_word Device = 0x13010001

-- RASR.SIZE of a power of two: n for 2 ^ (n + 1) bytes
abbrev pub size_field : ℕ → ℕ
size_field size = trailing_zeros w32 size - 1

-- the words for the block of `size` bytes at `base`: MPU_RBAR is the base with VALID and the region's number,
-- and bit i of `srd` takes out the i-th eighth of the block
unfoldable pub region_of : (number base size srd : ℕ) → Rights → Region
region_of number base size srd rights = record { rbar = base + 2 ^ 4 + number; rasr = rights_word rights + srd * 2 ^ 8 + size_field size * 2 }

-- an address of the block whose eighth is not taken out; below 256 bytes a block has no eighths
pub record IsHeld (base size srd a : ℕ) : Type 0 where
  pub from_base : base ≤ a
  pub below_end : a < base + size
  pub not_taken_out : 2 ^ 8 ≤ size → bit_at srd ((a - base) / (size / 8)) ≡ 0

-- who may do what
abbrev pub may : Rights → (unprivileged : Bool) → Access → Bool
may Background u Read = true
may Background u Write = not u
may Background u Fetch = false
may Code u Read = true
may Code u Write = false
may Code u Fetch = true
may Stack u Read = true
may Stack u Write = true
may Stack u Fetch = false
may Ram u Read = true
may Ram u Write = true
may Ram u Fetch = false
may Device u Read = true
may Device u Write = true
may Device u Fetch = false

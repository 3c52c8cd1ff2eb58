-- The registers of the unit (Armv7-M ARM, B3.5.5 to B3.5.9).
use Rattle.std.specs.Prelude.{ℕ, ◌+◌, ◌*◌, ◌/◌, ◌%◌, ◌^◌, Bool, true, false, ◌||◌, List, length, nat_eq, nat_lt, replicate, if◌then◌else◌}
use Rattle.std.proofs.Math.ListN.{get_or, set}
use Rattle.machine_protection.specs.declared.region.Region.{Region}
use Rattle.machine_protection.specs.declared.TheConstants.{MPU_TYPE, MPU_CTRL, MPU_RNR, MPU_RBAR, MPU_RASR}

-- what the unit holds: MPU_CTRL, MPU_RNR, and the regions in order of their numbers
pub record Registers : Type 0 where
  pub control : ℕ
  pub number : ℕ
  pub regions : List Region

abbrev pub blank : Region
blank = record { rbar = 0; rasr = 0 }

-- a unit of n regions before the first write
abbrev pub at_reset : ℕ → Registers
at_reset n = record { control = 0; number = 0; regions = replicate n blank }

-- the region that MPU_RNR selects; beyond the last there is none
abbrev pub selected : Registers → Region
selected m = get_or m.regions m.number blank

-- MPU_CTRL keeps ENABLE, HFNMIENA and PRIVDEFENA
abbrev pub kept_control : ℕ → ℕ
kept_control v = v % 8

-- RBAR.ADDR at its place
abbrev pub kept_address : ℕ → ℕ
kept_address v = v / 2 ^ 5 * 2 ^ 5

-- the bits of a word from bit `low` on, `width` of them, at their place
abbrev pub field : ℕ → (low width : ℕ) → ℕ
field v low width = v / 2 ^ low % 2 ^ width * 2 ^ low

-- XN, AP, TEX with S, C and B, SRD, and SIZE with ENABLE, each at its place
abbrev pub kept_attributes : ℕ → ℕ
kept_attributes v = field v 28 1 + field v 24 3 + field v 16 6 + field v 8 8 + field v 0 6

-- changes of the selected region; beyond the last region nothing changes
abbrev pub with_address : Registers → ℕ → Registers
with_address m v = record m { regions = set m.regions m.number (record (selected m) { rbar = kept_address v }) }

abbrev pub with_attributes : Registers → ℕ → Registers
with_attributes m v = record m { regions = set m.regions m.number (record (selected m) { rasr = kept_attributes v }) }

-- an address written with VALID set first selects the region of its low four bits
abbrev pub write_address : (valid : Bool) → Registers → ℕ → Registers
write_address true m v = with_address (record m { number = v % 16 }) v
write_address false m v = with_address m v

abbrev pub is_register : ℕ → Bool
is_register a = nat_eq a MPU_TYPE || (nat_eq a MPU_CTRL || (nat_eq a MPU_RNR || (nat_eq a MPU_RBAR || nat_eq a MPU_RASR)))

-- after a write of a word; MPU_TYPE cannot be written
unfoldable pub write_register : ℕ → ℕ → Registers → Registers
write_register a v m =
    if nat_eq a MPU_CTRL then record m { control = kept_control v }
    else if nat_eq a MPU_RNR then record m { number = v % 2 ^ 8 }
    else if nat_eq a MPU_RBAR then write_address (nat_eq (v / 2 ^ 4 % 2) 1) m v
    else if nat_eq a MPU_RASR then with_attributes m v
    else m

-- the base address reads with the region's number, and VALID as 0; beyond the last region it reads 0
abbrev pub read_address : Registers → ℕ
read_address m = if nat_lt m.number (length m.regions) then kept_address (selected m).rbar + m.number % 16 else 0

-- what a read of a word gives; MPU_TYPE gives the number of regions in bits 15 to 8
unfoldable pub read_register : ℕ → Registers → ℕ
read_register a m =
    if nat_eq a MPU_TYPE then length m.regions * 2 ^ 8
    else if nat_eq a MPU_CTRL then m.control
    else if nat_eq a MPU_RNR then m.number
    else if nat_eq a MPU_RBAR then read_address m
    else (selected m).rasr

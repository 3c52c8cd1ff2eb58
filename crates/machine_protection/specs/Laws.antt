-- What software that writes and reads the unit's registers may rest on.
use Rattle.std.specs.Prelude.{◌≡◌, ℕ, ◌+◌, ◌/◌, ◌%◌, ◌^◌, ◌<◌, ◌≤◌, ◌↔◌, Bool, List, Some, None, length, IsTrue}
use Rattle.std.specs.Int.{IsPowerOfTwo}
use Rattle.std.proofs.Math.ListN.{set}
use Rattle.machine_protection.specs.declared.region.Region.{Region}
use Rattle.machine_protection.specs.declared.region.Access.{Access}
use Rattle.machine_protection.specs.declared.TheConstants.{MPU_CTRL, MPU_RNR, MPU_RBAR, MPU_RASR}
use Rattle.machine_protection.specs.declared.words.Rights.{Rights}
use Rattle.machine_protection.specs.Regions.{holds, allows}
use Rattle.machine_protection.specs.RegionWords.{region_of, IsHeld, may}
use Rattle.machine_protection.specs.Protection.{Decides, NoneHolds, deciding}
use Rattle.machine_protection.specs.Registers.{Registers, kept_control, kept_address, kept_attributes, read_register, write_register}

-- no write changes the number of regions
abbrev pub WritesKeepTheCount : Type 0
WritesKeepTheCount = (reg v : ℕ) (m : Registers) → length (write_register reg v m).regions ≡ length m.regions

-- a register reads as far as it keeps what was written
pub record ReadsBack (v : ℕ) (m : Registers) : Type 0 where
  pub control : read_register MPU_CTRL (write_register MPU_CTRL v m) ≡ kept_control v
  pub number : read_register MPU_RNR (write_register MPU_RNR v m) ≡ v % 2 ^ 8
  pub address : let after = write_register MPU_RBAR v m in after.number < length m.regions → read_register MPU_RBAR after ≡ kept_address v + after.number % 16
  pub attributes : m.number < length m.regions → read_register MPU_RASR (write_register MPU_RASR v m) ≡ kept_attributes v

abbrev pub RegistersReadBack : Type 0
RegistersReadBack = (v : ℕ) (m : Registers) → ReadsBack v m

-- a region as the registers keep it
abbrev pub kept_region : Region → Region
kept_region g = record { rbar = kept_address g.rbar; rasr = kept_attributes g.rasr }

-- the writes of both words, of an address with VALID first, put the region into its place and leave all else
abbrev pub RegionsAreWritten : Type 0
RegionsAreWritten =
    (g : Region) (m : Registers) → g.rbar / 2 ^ 4 % 2 ≡ 1 →
    write_register MPU_RASR g.rasr (write_register MPU_RBAR g.rbar m)
    ≡ record { control = m.control; number = g.rbar % 16; regions = set m.regions (g.rbar % 16) (kept_region g) }

-- what the registers keep of a region holds and allows the same
pub record IsKeptWhole (g : Region) : Type 0 where
  pub held : (a : ℕ) → holds (kept_region g) a ≡ holds g a
  pub allowed : (u : Bool) (kind : Access) → allows (kept_region g) u kind ≡ allows g u kind

abbrev pub RegionsAreKept : Type 0
RegionsAreKept = (g : Region) → IsKeptWhole g

-- the region that decides is the one of the highest number that holds the address, and there is none exactly
-- where none holds it
pub record IsScanned (gs : List Region) (a : ℕ) : Type 0 where
  pub some : (g : Region) → (deciding gs a ≡ Some g) ↔ ((i : ℕ) × Decides gs a i g)
  pub none : (deciding gs a ≡ None) ↔ NoneHolds gs a

abbrev pub TheHighestDecides : Type 0
TheHighestDecides = (gs : List Region) (a : ℕ) → IsScanned gs a

-- the region for a block holds what its eighths leave of the block
abbrev pub RegionsHoldTheirBlocks : Type 0
RegionsHoldTheirBlocks =
    (number base size srd : ℕ) (rights : Rights) →
    number < 16 → IsPowerOfTwo size → 32 ≤ size → size < 2 ^ 32 → base % size ≡ 0 → srd < 2 ^ 8 →
    (a : ℕ) → IsTrue (holds (region_of number base size srd rights) a) ↔ IsHeld base size srd a

-- and allows what its rights say
abbrev pub RegionsGiveTheirRights : Type 0
RegionsGiveTheirRights =
    (number base size srd : ℕ) (rights : Rights) → srd < 2 ^ 8 →
    (u : Bool) (kind : Access) → allows (region_of number base size srd rights) u kind ≡ may rights u kind

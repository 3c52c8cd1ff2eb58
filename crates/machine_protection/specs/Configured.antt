-- A unit whose regions software has written: which of them decides, the region with open eighths, and each write.
use Rattle.std.specs.Prelude.{◌≡◌, ℕ, ◌+◌, ◌-◌, ◌*◌, ◌/◌, ◌%◌, ◌^◌, ◌<◌, ◌≤◌, ◌⊎◌, ◌↔◌, Bool, true, false, List, [], ◌∷◌, ◌++◌, length, map, Some, None, IsTrue}
use Rattle.std.specs.Int.{IsPowerOfTwo, bit_at}
use Rattle.base_laws.specs.Lists.{Each}
use Rattle.machine_protection.specs.declared.region.Region.{Region}
use Rattle.machine_protection.specs.declared.region.Access.{Access}
use Rattle.machine_protection.specs.declared.words.Rights.{Rights}
use Rattle.machine_protection.specs.declared.TheConstants.{MPU_CTRL, MPU_RNR, MPU_RBAR, MPU_RASR}
use Rattle.machine_protection.specs.Regions.{holds, allows}
use Rattle.machine_protection.specs.RegionWords.{region_of}
use Rattle.machine_protection.specs.Protection.{deciding, permits, is_on}
use Rattle.machine_protection.specs.Registers.{Registers, kept_control, with_address, with_attributes, write_register}
use Rattle.machine_protection.specs.Laws.{kept_region}

-- ---- which region decides

-- none of these regions holds the address
abbrev pub NoneOf : List Region → (address : ℕ) → Type 0
NoneOf gs a = Each (λ (g : Region). holds g a ≡ false) gs

-- this is the last of these regions that holds the address
abbrev pub IsLast : List Region → (address : ℕ) → Region → Type 0
IsLast [] a x = ⊥
IsLast (g ∷ gs) a x = IsLast gs a x ⊎ ((x ≡ g) × (holds g a ≡ true) × NoneOf gs a)

-- the last region that holds the address decides, of a list of regions that a unit keeps, and none exactly where none holds it
pub record DecidesAsKept (gs : List Region) (a : ℕ) : Type 0 where
  pub some : (x : Region) → (deciding (map kept_region gs) a ≡ Some x) ↔ ((g : Region) × (x ≡ kept_region g) × IsLast gs a g)
  pub none : (deciding (map kept_region gs) a ≡ None) ↔ NoneOf gs a

abbrev pub KeptListsDecide : Type 0
KeptListsDecide = (gs : List Region) (a : ℕ) → DecidesAsKept gs a

-- therefore unprivileged code may do what the last region allows, and nothing else
abbrev pub KeptListsPermit : Type 0
KeptListsPermit =
    (gs : List Region) (m : Registers) (kind : Access) (a : ℕ) → is_on m ≡ true → m.regions ≡ map kept_region gs →
    (permits m true kind a ≡ true) ↔ ((g : Region) × IsLast gs a g × (allows g true kind ≡ true))

-- the same is permitted as by the regions that were written
abbrev pub KeptUnitsPermitTheSame : Type 0
KeptUnitsPermitTheSame =
    (m : Registers) (u : Bool) (kind : Access) (a : ℕ) → permits (record m { regions = map kept_region m.regions }) u kind a ≡ permits m u kind a

-- ---- a block of whose eighths the first n are open

-- RASR.SRD with bit i set exactly where i is at least n
abbrev pub closed_from : (n : ℕ) → ℕ
closed_from n = 2 ^ 8 - 2 ^ n

abbrev pub EighthsAreClosed : Type 0
EighthsAreClosed = (n i : ℕ) → i < 8 → (bit_at (closed_from n) i ≡ 1) ↔ (n ≤ i)

abbrev pub OpenEighthsAreHeld : Type 0
OpenEighthsAreHeld =
    (number base size n : ℕ) (rights : Rights) →
    number < 16 → IsPowerOfTwo size → 2 ^ 8 ≤ size → size < 2 ^ 32 → base % size ≡ 0 → n ≤ 8 →
    (a : ℕ) → IsTrue (holds (region_of number base size (closed_from n) rights) a) ↔ ((base ≤ a) × (a < base + n * (size / 8)))

-- ---- writes

-- each write as an equation; those of the regions' registers keep MPU_CTRL
pub record WritesAre (v : ℕ) (m : Registers) : Type 0 where
  pub control : write_register MPU_CTRL v m ≡ record m { control = kept_control v }
  pub number : write_register MPU_RNR v m ≡ record m { number = v % 2 ^ 8 }
  pub address : v / 2 ^ 4 % 2 ≡ 0 → write_register MPU_RBAR v m ≡ with_address m v
  pub numbered_address : v / 2 ^ 4 % 2 ≡ 1 → write_register MPU_RBAR v m ≡ with_address (record m { number = v % 16 }) v
  pub attributes : write_register MPU_RASR v m ≡ with_attributes m v
  pub address_keeps_control : (write_register MPU_RBAR v m).control ≡ m.control

abbrev pub EachWriteIs : Type 0
EachWriteIs = (v : ℕ) (m : Registers) → WritesAre v m

-- the writes of both words of each of these regions, one after another
abbrev pub written : List Region → Registers → Registers
written [] m = m
written (g ∷ gs) m = written gs (write_register MPU_RASR g.rasr (write_register MPU_RBAR g.rbar m))

-- their addresses have VALID, and the numbers from k on
abbrev pub AreNumbered : (k : ℕ) → List Region → Type 0
AreNumbered k [] = Unit {0}
AreNumbered k (g ∷ gs) = (g.rbar / 2 ^ 4 % 2 ≡ 1) × (g.rbar % 16 ≡ k) × AreNumbered (k + 1) gs

-- behind the regions in front, which stay, stand exactly those that were written
pub record AreWritten (gs front : List Region) (m : Registers) : Type 0 where
  pub regions : (written gs m).regions ≡ front ++ map kept_region gs
  pub control : (written gs m).control ≡ m.control

abbrev pub ListsAreWritten : Type 0
ListsAreWritten =
    (gs front back : List Region) (m : Registers) → m.regions ≡ front ++ back → length back ≡ length gs → AreNumbered (length front) gs →
    AreWritten gs front m

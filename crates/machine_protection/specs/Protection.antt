-- Which accesses are allowed: as a fact about the list of regions, and as the test that decides it
-- (Armv7-M ARM, B3.5.1 to B3.5.4, ValidateAddress).
use Rattle.std.specs.Prelude.{◌≡◌, ℕ, ◌+◌, ◌/◌, ◌%◌, ◌<◌, ◌⊎◌, Bool, true, false, not, ◌&&◌, ◌||◌, List, [], ◌∷◌, Option, Some, None, nat_eq, nat_lt, slice_get, IsTrue, ◌↔◌}
use Rattle.machine_protection.specs.declared.region.Region.{Region}
use Rattle.machine_protection.specs.declared.region.Access.{Access}
use Rattle.machine_protection.specs.declared.region.Access.TheVariants.{Read, Write, Fetch}
use Rattle.machine_protection.specs.Regions.{holds, allows}
use Rattle.machine_protection.specs.Registers.{Registers}

-- region g, by number i, holds the address, and no region of a higher number does
pub record Decides (regions : List Region) (a i : ℕ) (g : Region) : Type 0 where
  pub stands : slice_get regions i ≡ Some g
  pub holds_it : holds g a ≡ true
  pub highest : (j : ℕ) (h : Region) → i < j → slice_get regions j ≡ Some h → holds h a ≡ false

-- no region holds the address
abbrev pub NoneHolds : List Region → ℕ → Type 0
NoneHolds regions a = (j : ℕ) (h : Region) → slice_get regions j ≡ Some h → holds h a ≡ false

-- MPU_CTRL.ENABLE and MPU_CTRL.PRIVDEFENA
abbrev pub is_on : Registers → Bool
is_on m = nat_eq (m.control % 2) 1

abbrev pub has_background : Registers → Bool
has_background m = nat_eq (m.control / 4 % 2) 1

-- without a region that decides, instructions are fetched below 0x40000000 and from 0x60000000 to 0x9FFFFFFF alone
-- (the default memory map, B3.1)
abbrev pub is_fetch_place : ℕ → Bool
is_fetch_place a = nat_lt a 0x40000000 || (nat_lt 0x5FFFFFFF a && nat_lt a 0xA0000000)

abbrev pub default_allows : Access → ℕ → Bool
default_allows Read a = true
default_allows Write a = true
default_allows Fetch a = is_fetch_place a

-- why an access is allowed
pub data Allowed (m : Registers) (unprivileged : Bool) (kind : Access) (a : ℕ) : Type 0 where
  WhileOff : is_on m ≡ false → default_allows kind a ≡ true → Allowed m unprivileged kind a
  ByRegion : (i : ℕ) (g : Region) → is_on m ≡ true → Decides m.regions a i g → allows g unprivileged kind ≡ true → Allowed m unprivileged kind a
  ByBackground : is_on m ≡ true → NoneHolds m.regions a → unprivileged ≡ false → has_background m ≡ true → default_allows kind a ≡ true → Allowed m unprivileged kind a

-- the region that decides about an address: the last of the list that holds it
abbrev pub or_this : (holds_it : Bool) → Region → Option Region → Option Region
or_this h g (Some later) = Some later
or_this true g None = Some g
or_this false g None = None

unfoldable pub deciding : List Region → ℕ → Option Region
deciding [] a = None
deciding (g ∷ gs) a = or_this (holds g a) g (deciding gs a)

-- what decides while the unit is on
abbrev pub decided : Option Region → (background unprivileged : Bool) → Access → ℕ → Bool
decided (Some g) b u kind a = allows g u kind
decided None b u kind a = not u && (b && default_allows kind a)

abbrev pub while_on : (on : Bool) → (off_allows on_allows : Bool) → Bool
while_on true f t = t
while_on false f t = f

-- the test
unfoldable pub permits : Registers → (unprivileged : Bool) → Access → ℕ → Bool
permits m u kind a = while_on (is_on m) (default_allows kind a) (decided (deciding m.regions a) (has_background m) u kind a)

-- the widths of an access, in bytes
abbrev pub IsAccessWidth : ℕ → Type 0
IsAccessWidth w = (w ≡ 1) ⊎ ((w ≡ 2) ⊎ (w ≡ 4))

-- the bytes of an aligned access are decided alike
abbrev pub BytesAreAlike : Type 0
BytesAreAlike =
    (m : Registers) (u : Bool) (kind : Access) (w a i : ℕ) → IsAccessWidth w → a % w ≡ 0 → i < w →
    permits m u kind (a + i) ≡ permits m u kind a

-- the test decides the fact
abbrev pub PermitsIsAllowed : Type 0
PermitsIsAllowed = (m : Registers) (u : Bool) (kind : Access) (a : ℕ) → IsTrue (permits m u kind a) ↔ Allowed m u kind a

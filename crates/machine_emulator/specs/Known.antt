-- Beyond the program's claim: only laws, proofs and functions inside the tool cite this file.
-- Which blocks of 32 bytes are known to be permitted.
use Rattle.std.specs.Prelude.{◌≡◌, ℕ, ◌*◌, ◌<◌, ◌^◌, Bool, true, List, length}
use Rattle.std.specs.List.{All}
use Rattle.machine_protection.specs.declared.region.Access.{Access}
use Rattle.machine_protection.specs.Registers.{Registers}
use Rattle.machine_protection.specs.Protection.{is_on, permits}

-- such an access is permitted in the block of this number. A number behind those of all blocks tells nothing, and none does
-- while the unit is off: then nobody asks for it
abbrev pub IsPermitted : Registers → (unprivileged : Bool) → Access → (block : ℕ) → Type 0
IsPermitted m u kind b = is_on m ≡ true → b < 2 ^ 27 → permits m u kind (32 * b) ≡ true

-- and so in each block of a list
pub record AreKnown (m : Registers) (u : Bool) (kind : Access) (bs : List ℕ) : Type 0 where
  pub room : length bs ≡ 32
  pub permitted : All (IsPermitted m u kind) bs

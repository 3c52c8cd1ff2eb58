-- Beyond the program's claim: only laws, proofs and functions inside the tool cite this file.
-- Numbers that were found, and their flags.
use Rattle.std.specs.Prelude.{◌≡◌, ◌↔◌, ℕ, Bool, true, false, List, length, get_or, Contains}
use Rattle.std.specs.List.{count_by}

-- the flags of exactly these numbers are set, each of which was found once
pub record AreMarks (flags : List Bool) (found : List ℕ) : Type 0 where
  pub each : (g : ℕ) → Contains found g ↔ get_or flags g false ≡ true
  pub once : count_by (λ b. b) flags ≡ length found

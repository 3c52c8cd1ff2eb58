-- Beyond the program's claim: only laws, proofs and functions inside the tool cite this file.
-- Facts of functions as they are told of all functions of a firmware.
use Rattle.std.specs.Prelude.{◌≡◌, ℕ, ◌<◌, List, length, get_or}
use Rattle.std.specs.List.{All}
use Rattle.plan_model.specs.declared.groups.FuncFacts.{FuncFacts}

-- its callers' numbers are below a bound
abbrev pub HasCallersBelow : (bound : ℕ) → FuncFacts → Type 0
HasCallersBelow n f = All (λ h. h < n) f.callers

-- each has its place as its number, and its callers are among them
pub record AreFunctions (fs : List FuncFacts) : Type 0 where
  pub numbered : (k : ℕ) (d : FuncFacts) → k < length fs → (get_or fs k d).index ≡ k
  pub callers : All (HasCallersBelow (length fs)) fs

-- one of `count` functions, with its callers
pub record IsAmong (count : ℕ) (f : FuncFacts) : Type 0 where
  pub index : f.index < count
  pub callers : HasCallersBelow count f

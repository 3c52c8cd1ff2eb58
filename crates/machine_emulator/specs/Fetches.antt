-- Beyond the program's claim: only laws, proofs and functions inside the tool cite this file.
-- What a fetch tells of its address and of the address behind it.
use Rattle.std.specs.Prelude.{ℕ, ◌^◌, ◌<◌, ◌≤◌}
use Rattle.machine_model.specs.declared.answers.Fetched.{Fetched}
use Rattle.machine_model.specs.declared.answers.Fetched.TheVariants.{Took, NotAllowed, NotMapped}

-- an instruction was fetched from below the peripherals, and has at most four bytes
abbrev pub IsLow : Fetched → (address : ℕ) → Type 0
IsLow (Took h k size) a = (a < 2 ^ 31) × (size ≤ 4)
IsLow NotAllowed a = Unit {0}
IsLow NotMapped a = Unit {0}

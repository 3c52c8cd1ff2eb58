-- Beyond the program's claim: only laws, proofs and functions inside the tool cite this file.
-- Lists over the numbers of groups.
use Rattle.std.specs.Prelude.{◌≡◌, ℕ, ◌<◌, Bool, false, List, length, get_or}
use Rattle.plan_model.specs.Compartments.{compartment_number}
use Rattle.plan_model.specs.Lists.{has}

-- which numbers are groups of a function
abbrev pub AreMarks : (groups : List ℕ) → List Bool → Type 0
AreMarks groups used = (g : ℕ) → g < length used → get_or used g false ≡ has groups g

-- how many groups below each number have a function
abbrev pub AreNumbers : (groups numbers : List ℕ) → Type 0
AreNumbers groups numbers = (g : ℕ) → g < length numbers → get_or numbers g 0 ≡ compartment_number groups g

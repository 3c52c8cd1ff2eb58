-- Beyond the program's claim: only laws, proofs and functions inside the tool cite this file.
-- The first place of a name in a list.
use Rattle.std.specs.Prelude.{ℕ, List, Option, Some, None, if◌then◌else◌}
use Rattle.base_names.specs.Numbers.{has, number_of}

abbrev pub place_in : List (List ℕ) → List ℕ → Option ℕ
place_in ns n = if has ns n then Some (number_of ns n) else None

-- Beyond the program's claim: only laws, proofs and functions inside the tool cite this file.
-- The bytes of functions that stand one behind the other.
use Rattle.std.specs.Prelude.{ℕ, ◌+◌, List, [], ◌∷◌}
use Rattle.std.proofs.Math.ListN.{get_or}
use Rattle.code_model.specs.CompartmentCode.{filled_size}

-- the bytes of these functions, each filled up, by the bytes of all
abbrev pub filled_total : (sizes funcs : List ℕ) → ℕ
filled_total sizes [] = 0
filled_total sizes (f ∷ fs) = filled_size (get_or sizes f 0) + filled_total sizes fs

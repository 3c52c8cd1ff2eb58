-- Beyond the program's claim: only laws, proofs and functions inside the tool cite this file.
-- Where functions begin, from the sizes of all functions.
use Rattle.std.specs.Prelude.{ℕ, ◌+◌, List, length, map}
use Rattle.std.proofs.Math.ListN.{get_or, take}
use Rattle.plan_model.specs.declared.plan.Spot.{Spot}
use Rattle.plan_model.specs.declared.plan.Plan.{Plan}
use Rattle.plan_model.specs.Lists.{numbers_below}
use Rattle.code_model.specs.CompartmentCode.{members_from}
use Rattle.plan_crossings.specs.Filled.{filled_total}

-- the first address of a compartment's code
abbrev pub base_in : Plan → (compartment : ℕ) → ℕ
base_in l c = get_or (map (λ (s : Spot). s.base) l.code) c 0

-- the entry of a function by the compartments and the sizes of all
abbrev pub entry_in : Plan → (compartments sizes : List ℕ) → (func : ℕ) → ℕ
entry_in l cs zs h = base_in l (get_or cs h 0) + filled_total zs (members_from 0 (take h cs) (get_or cs h 0))

-- of each function
abbrev pub entries_in : Plan → (compartments sizes : List ℕ) → List ℕ
entries_in l cs zs = map (entry_in l cs zs) (numbers_below (length zs))

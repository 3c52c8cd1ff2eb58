-- Beyond the program's claim: only laws, proofs and functions inside the tool cite this file.
-- When the globals of a region, one behind the other from an address on, need a number of more than 32 bits.
use Rattle.std.specs.Prelude.{ℕ, ◌+◌, ◌^◌, ◌≤◌, List, [], ◌∷◌, ◌⊎◌}
use Rattle.ir_model.specs.Resolved.{Program}
use Rattle.plan_model.specs.Regions.{global_size}
use Rattle.plan_model.specs.Blocks.{aligned}

-- the end of one of them passes 32 bits
abbrev pub Passes : Program → (at : ℕ) → (globals : List ℕ) → Type 0
Passes p at [] = ⊥
Passes p at (x ∷ xs) =
    (2 ^ 32 ≤ aligned p x at + global_size p x) ⊎ Passes p (aligned p x at + global_size p x) xs

-- Beyond the program's claim: only laws, proofs and functions inside the tool cite this file.
-- Where a search by halving ends among the fields of a struct.
use Rattle.std.specs.Prelude.{ℕ, ◌+◌, ◌<◌, ◌≤◌, List, length}
use Rattle.std.proofs.Math.ListN.{get_or}
use Rattle.ir_layouts.specs.declared.struct_layout.Field.{Field}

-- from this place on each has a greater number
abbrev pub IsFirstAbove : (Field → ℕ) → List Field → (most place : ℕ) → Type 0
IsFirstAbove n fs m i = (k : ℕ) (f : Field) → i ≤ k → k < length fs → m < n (get_or fs k f)

-- the last place of one that has no greater number
abbrev pub IsLastWithin : (Field → ℕ) → List Field → (most place : ℕ) → Type 0
IsLastWithin n fs m i = (i < length fs) × ((f : Field) → n (get_or fs i f) ≤ m) × IsFirstAbove n fs m (i + 1)

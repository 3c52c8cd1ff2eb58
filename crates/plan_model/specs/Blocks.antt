-- Blocks of memory: their sizes, where the globals of a region stand in its block, and which eighths of a block stay open.
use Rattle.std.specs.Prelude.{ℕ, ◌+◌, ◌-◌, ◌/◌, Bool, List, [], ◌∷◌, get_or, if◌then◌else◌, nat_eq, nat_le}
use Rattle.std.specs.List.{position_or_len}
use Rattle.machine_protection.specs.Configured.{closed_from}
use Rattle.ir_model.specs.Layout.{rounded_up}
use Rattle.ir_model.specs.Resolved.{Program, global_at}
use Rattle.plan_model.specs.Regions.{global_size}
use Rattle.plan_model.specs.Covers.{least_power}

-- the size of the block for n bytes: the smallest power of two, from 32 on, that is not below n
unfoldable pub block_size_for : ℕ → ℕ
block_size_for n = least_power (nat_le n)

-- ---- the globals of a region

-- the next multiple of a global's alignment
abbrev pub aligned : Program → (global at : ℕ) → ℕ
aligned p x at = rounded_up at (global_at p x).shape.align

-- where each of these globals begins, from an offset on, in order of declaration
abbrev pub offsets_from : Program → (at : ℕ) → (globals : List ℕ) → List ℕ
offsets_from p at [] = []
offsets_from p at (x ∷ xs) = aligned p x at ∷ offsets_from p (aligned p x at + global_size p x) xs

-- where the last of them ends
abbrev pub end_from : Program → (at : ℕ) → (globals : List ℕ) → ℕ
end_from p at [] = at
end_from p at (x ∷ xs) = end_from p (aligned p x at + global_size p x) xs

-- the bytes of a region of these globals
unfoldable pub region_bytes : Program → (globals : List ℕ) → ℕ
region_bytes p xs = end_from p 0 xs

-- where one of them begins in its region's block
unfoldable pub offset_in_region : Program → (globals : List ℕ) → (global : ℕ) → ℕ
offset_in_region p xs x = get_or (offsets_from p 0 xs) (position_or_len (λ y. nat_eq y x) xs) 0

-- ---- eighths of a block

-- from 256 bytes on a region of the protection unit has eight subregions
abbrev pub has_eighths : (size : ℕ) → Bool
has_eighths size = nat_le 256 size

-- the least whole number that is not below the quotient
abbrev pub quotient_up : (n d : ℕ) → ℕ
quotient_up n d = (n + (d - 1)) / d

-- how many eighths of a block begin before the end of the bytes that it holds
unfoldable pub open_eighths : (size bytes : ℕ) → ℕ
open_eighths size bytes = quotient_up bytes (size / 8)

-- RASR.SRD: each eighth that begins at or behind the end of the bytes is taken out
unfoldable pub subregions_out : (size bytes : ℕ) → ℕ
subregions_out size bytes = if has_eighths size then closed_from (open_eighths size bytes) else 0

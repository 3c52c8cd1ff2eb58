-- Beyond the program's claim: only laws, proofs and functions inside the tool cite this file.
-- What MOVW and MOVT move, each by itself.
use Rattle.std.specs.Prelude.{ℕ, Option, Some, None}
use Rattle.machine_thumb.specs.declared.table.Instr.{Instr}
use Rattle.machine_thumb.specs.declared.table.Instr.TheVariants.{MoveWide, MoveTop}

-- the register and the number of a MOVW
abbrev pub low_of : Option Instr → Option (ℕ × ℕ)
low_of (Some (MoveWide d v)) = Some (d, v)
low_of _ = None

-- of a MOVT
abbrev pub high_of : Option Instr → Option (ℕ × ℕ)
high_of (Some (MoveTop d v)) = Some (d, v)
high_of _ = None

-- The bytes of instructions, halfwords with the lowest byte first (A3.3).
use Rattle.std.specs.Prelude.{ℕ, ◌/◌, ◌%◌, List, [], ◌∷◌, ◌++◌}
use Rattle.machine_thumb.specs.Table.{InTable, encode}
use Rattle.machine_thumb.specs.declared.table.Code.{Code}
use Rattle.machine_thumb.specs.declared.table.Code.TheVariants.{Half, Pair}
use Rattle.machine_thumb.specs.declared.table.Instr.{Instr}

abbrev pub bytes_of_half : ℕ → List ℕ
bytes_of_half h = h % 256 ∷ h / 256 ∷ []

abbrev pub bytes_of_code : Code → List ℕ
bytes_of_code (Half h) = bytes_of_half h
bytes_of_code (Pair h k) = bytes_of_half h ++ bytes_of_half k

abbrev pub code_bytes : List Instr → List ℕ
code_bytes [] = []
code_bytes (x ∷ xs) = bytes_of_code (encode x) ++ code_bytes xs

abbrev pub EachInTable : List Instr → Type 0
EachInTable [] = Unit {0}
EachInTable (x ∷ xs) = InTable x × EachInTable xs

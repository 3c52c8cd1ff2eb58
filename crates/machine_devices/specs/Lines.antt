-- Beyond the program's claim: only laws, proofs and functions inside the tool cite this file.
-- Lines of a tape as the code reads them, tied to the definitions of Tape.
use Rattle.std.specs.Prelude.{ℕ, List, [], ◌∷◌, nat_eq, if◌then◌else◌}
use Rattle.machine_devices.specs.Tape.{Row, Blank as Nothing, Entry as Word, Bad as Malformed}
use Rattle.machine_devices.specs.declared.line.Line.{Line}
use Rattle.machine_devices.specs.declared.line.Line.TheVariants.{Blank, Entry, Bad}

-- what a line says
abbrev pub said : Line → Row
said Blank = Nothing
said (Entry name word) = Word name.now word
said Bad = Malformed

-- a field before the fields behind it; nothing where there is no field
abbrev pub with_field : List ℕ → List (List ℕ) → List (List ℕ)
with_field [] fields = []
with_field (b ∷ bs) fields = (b ∷ bs) ∷ fields

-- a line whose end is the line feed behind it, without a carriage return at its end
abbrev pub without_return : List ℕ → List ℕ
without_return [] = []
without_return (b ∷ []) = if nat_eq b 13 then [] else (b ∷ [])
without_return (b ∷ c ∷ bs) = b ∷ without_return (c ∷ bs)

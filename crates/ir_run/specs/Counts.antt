-- Beyond the program's claim: only laws, proofs and functions inside the tool cite this file.
-- Numbers of cells that the code keeps.
use Rattle.std.specs.Prelude.{◌≡◌, List, length, map}
use Rattle.ir_model.specs.Layout.{Known, Shape}
use Rattle.ir_program.specs.declared.program.Storage.{Storage}
use Rattle.ir_program.specs.Storages.{shape_of}

-- the number is that of the cells
abbrev pub HasCount : List Known → Storage → Type 0
HasCount ks s = s.cells ≡ length (shape_of ks s).cells

abbrev pub HaveCounts : List Known → List Storage → Type 0
HaveCounts ks ss = map (λ (s : Storage). s.cells) ss ≡ map (λ (s : Shape). length s.cells) (map (shape_of ks) ss)

-- Beyond the program's claim: only laws, proofs and functions inside the tool cite this file.
-- Cells: each stands at a multiple of its width, and the cell that is found at an offset.
use Rattle.std.specs.Prelude.{◌≡◌, ℕ, ◌%◌, ◌<◌, List, length, Some}
use Rattle.ir_model.specs.Types.{PlainType, width_of}
use Rattle.ir_model.specs.Plain.{PlainFirmware}
use Rattle.ir_model.specs.Layout.{CellPlace, cell_at}
use Rattle.ir_model.specs.Resolved.{Program, cells_of_global, cells_of_local}
use Rattle.ir_model.specs.Resolve.{resolve}
use Rattle.ir_model.specs.Signatures.{cell_in}
use Rattle.ir_laws.specs.Typed.{IsCellType}

-- a cell holds an integer, a pointer or a function's address, and stands at a multiple of its width
pub record IsCell (c : CellPlace) : Type 0 where
  pub aligned : c.at % width_of c.ty ≡ 0
  pub kind : IsCellType c.ty

abbrev pub AreCells : List CellPlace → Type 0
AreCells cs = (k : ℕ) → IsCell (cell_in cs k)

pub record HasCells (p : Program) : Type 0 where
  pub globals : (g : ℕ) → AreCells (cells_of_global p g)
  pub locals : (f l : ℕ) → AreCells (cells_of_local p f l)

abbrev pub CellsAreAligned : Type 0
CellsAreAligned = (w : PlainFirmware) → HasCells (resolve w)

-- the cell of number k stands at an offset and is of a type
pub record IsFound (cs : List CellPlace) (at : ℕ) (t : PlainType) (k : ℕ) : Type 0 where
  pub below : k < length cs
  pub place : (cell_in cs k).at ≡ at
  pub ty : (cell_in cs k).ty ≡ t

abbrev pub CellsAreFound : Type 0
CellsAreFound = (cs : List CellPlace) (at : ℕ) (t : PlainType) (k : ℕ) → cell_at cs at t ≡ Some k → IsFound cs at t k

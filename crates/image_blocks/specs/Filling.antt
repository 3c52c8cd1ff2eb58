-- Beyond the program's claim: only laws, proofs and functions inside the tool cite this file.
-- What start-up fills, as the code has it.
use Rattle.std.specs.Prelude.{ℕ, List, [], map}
use Rattle.std.proofs.Math.ListN.{get_or}
use Rattle.ir_model.specs.Types.{PlainType, type_of}
use Rattle.ir_model.specs.Layout.{Known, shape}
use Rattle.ir_model.specs.Resolve.{zero_of, filled}
use Rattle.ir_model.specs.Resolved.{Value}
use Rattle.ir_program.specs.declared.program.Variable.{Variable}
use Rattle.ir_program.specs.Values.{value_of}
use Rattle.code_model.specs.declared.places.Places.{Places}
use Rattle.code_model.specs.declared.places.Addresses.{Addresses}
use Rattle.image_blocks.specs.declared.fill.Filled as blocks
use Rattle.image_model.specs.LinkedTables as records
use Rattle.image_model.specs.FirstWords.{with_cells}

abbrev pub filled_of : blocks.Filled → records.Filled
filled_of b = record { base = b.base; globals = b.globals.now }

-- where globals, windows and functions lie
abbrev pub object_places : Addresses → Places
object_places a = record { globals = a.globals; windows = a.windows; entries = a.entries; sites = []; lends = [] }

-- the value of a number, or what a cell of a type holds before it is written
abbrev pub first_in : List Value → (number : ℕ) → PlainType → Value
first_in vs k t = get_or vs k (zero_of t)

-- a memory with the first values of a global at an offset
abbrev pub cells_put : List Known → Places → Variable → (at : ℕ) → (memory : List ℕ) → List ℕ
cells_put ks q v at mem =
    with_cells q at (shape ks (type_of v.storage.ty.now)).cells (filled (shape ks (type_of v.storage.ty.now)).cells (map value_of v.init)) mem

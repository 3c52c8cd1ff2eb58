-- What a function of a program takes and gives, the types of its registers, and what stands at a place of it; and the types
-- in a row of parameters.
use Rattle.std.specs.Prelude.{ℕ, zero, suc, List, if◌then◌else◌}
use Rattle.std.proofs.Math.ListN.{get_or}
use Rattle.ir_model.specs.Types.{PlainType, U32, Callee, PlainTypes, none, more, is_integer}
use Rattle.ir_model.specs.Layout.{CellPlace}
use Rattle.ir_model.specs.Resolved.{Program, NumberedFunc, no_block, func_at, Here, here_in}

abbrev pub in_row : PlainTypes → ℕ → PlainType
in_row none k = U32
in_row (more t a) zero = t
in_row (more t a) (suc k) = in_row a k

abbrev pub row_length : PlainTypes → ℕ
row_length none = zero
row_length (more t a) = suc (row_length a)

-- the type of a function's address
abbrev pub signature : Program → ℕ → PlainType
signature p g = Callee (func_at p g).params (func_at p g).outcome

-- the type of a register of a function
abbrev pub type_in : NumberedFunc → ℕ → PlainType
type_in g r = get_or g.regs r U32

-- what stands at a place of a function
abbrev pub here_of : NumberedFunc → (block place : ℕ) → Here
here_of g b k = here_in (get_or g.blocks b no_block).insts (get_or g.blocks b no_block).term k

-- the type of the register that a cell of type t is loaded into or stored from
abbrev pub widened : PlainType → PlainType
widened t = if is_integer t then U32 else t

abbrev pub no_cell : CellPlace
no_cell = record { at = 0; ty = U32 }

-- the cell of a number
abbrev pub cell_in : List CellPlace → ℕ → CellPlace
cell_in cs k = get_or cs k no_cell

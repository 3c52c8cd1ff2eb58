-- The lines of the first values of a global: that there are more than cells, or the first that does not fit its cell.
use Rattle.std.specs.Prelude.{ℕ, suc, List, [], ◌∷◌, ◌++◌, map, length, codes, nat_le, Bool, not, Option, Some, None, is_some, if◌then◌else◌, bytes_eq}
use Rattle.std.specs.Fmt.{decimal}
use Rattle.machine_lines.specs.Lines.{line_feed}
use Rattle.ir_model.specs.declared.check.CheckPlace.{CheckPlace}
use Rattle.ir_model.specs.declared.check.CheckPlace.TheVariants as place
use Rattle.ir_model.specs.declared.firmware.Cell.{Cell}
use Rattle.ir_model.specs.declared.firmware.Cell.TheVariants.{Word, Function, Address}
use Rattle.ir_model.specs.Types.{PlainType}
use Rattle.ir_model.specs.Plain.{PlainGlobal, PlainFirmware}
use Rattle.ir_model.specs.Layout.{CellPlace, known, shape}
use Rattle.ir_model.specs.Typing.{Failing, first_failing, cell_checks, declared_checks}
use Rattle.ir_check_details.specs.Words.{expected, expected_type}

abbrev pub global_named : List PlainGlobal → List ℕ → Option PlainGlobal
global_named [] n = None
global_named (g ∷ gs) n = if bytes_eq g.name n then Some g else global_named gs n

-- ---- more values than cells

abbrev pub too_many_lines : (values cells : ℕ) → List ℕ
too_many_lines n m = codes "found " ++ decimal n ++ codes " values" ++ line_feed ++ expected (codes "at most " ++ decimal m)

-- ---- a value that does not fit

-- a value as it is written
abbrev pub value_text : Cell → List ℕ
value_text (Word n) = decimal n
value_text (Function f) = codes "fn " ++ f
value_text (Address x) = codes "addr " ++ x

-- the value of a number
abbrev pub found_value : (number : ℕ) → Cell → List ℕ
found_value k c = codes "found value " ++ decimal k ++ codes ": " ++ value_text c ++ line_feed

-- the same, and its cell's type
abbrev pub value_lines : (number : ℕ) → Cell → PlainType → List ℕ
value_lines k c t = found_value k c ++ expected_type t

-- a value fits a cell of this type where none of its checks fails
abbrev pub fits : PlainFirmware → CheckPlace → Cell → PlainType → Bool
fits w p c t = not (is_some (first_failing (cell_checks w p c t)))

-- the first that does not fit of values beside the types of their cells, the first value of this number
abbrev pub values_lines : PlainFirmware → CheckPlace → (number : ℕ) → List Cell → List PlainType → List ℕ
values_lines w p k [] ts = []
values_lines w p k (c ∷ cs) [] = []
values_lines w p k (c ∷ cs) (t ∷ ts) = if fits w p c t then values_lines w p (suc k) cs ts else value_lines k c t

-- ---- a global

-- by the types of its cells; values are numbered from 1
abbrev pub init_lines : PlainFirmware → PlainGlobal → List PlainType → List ℕ
init_lines w g ts =
    if nat_le (length g.init) (length ts) then values_lines w (place.Global g.name) 1 g.init ts else too_many_lines (length g.init) (length ts)

-- the types of a type's cells, in order
abbrev pub cell_types : PlainFirmware → PlainType → List PlainType
cell_types w t = map (λ (c : CellPlace). c.ty) (shape (known w.structs) t).cells

-- no line where a check of structs and peripherals fails: types need not have cells then
abbrev pub unless_failing : Option Failing → (lines : List ℕ) → List ℕ
unless_failing (Some e) ls = []
unless_failing None ls = ls

abbrev pub global_lines : PlainFirmware → Option PlainGlobal → List ℕ
global_lines w None = []
global_lines w (Some g) = unless_failing (first_failing (declared_checks w)) (init_lines w g (cell_types w g.ty))

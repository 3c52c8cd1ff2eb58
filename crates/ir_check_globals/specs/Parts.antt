-- Beyond the program's claim: only laws, proofs and functions inside the tool cite this file.
-- The checks of a global, one part among others.
use Rattle.std.specs.Prelude.{ℕ, List, [], ◌∷◌, ◌++◌, nat_le, length}
use Rattle.ir_model.specs.declared.check.CheckKind.TheVariants.{BadInit}
use Rattle.ir_model.specs.declared.check.CheckPlace.{CheckPlace}
use Rattle.ir_model.specs.declared.check.CheckPlace.TheVariants as place
use Rattle.ir_model.specs.declared.firmware.Cell.{Cell}
use Rattle.ir_model.specs.Types.{PlainType}
use Rattle.ir_model.specs.Plain.{PlainGlobal, PlainFirmware}
use Rattle.ir_model.specs.Layout.{known, shape}
use Rattle.ir_model.specs.Typing.{init_checks, cell_checks, Checks, check, is_new, type_checks}
use Rattle.ir_check_scopes.specs.Parts.{size_check}

-- a global's name and type, and its first values
abbrev pub named_check : (declared seen : List (List ℕ)) → PlainGlobal → Checks
named_check ds seen g = is_new seen g.name (place.Global g.name) ∷ type_checks ds ds (place.Global g.name) g.ty

abbrev pub cells_part : PlainFirmware → CheckPlace → List Cell → PlainType → Checks
cells_part w p cs t = check (nat_le (length cs) (length (shape (known w.structs) t).cells)) BadInit p ∷ init_checks w p cs (shape (known w.structs) t).cells

-- first values beside the types of their cells
abbrev pub values_checks : PlainFirmware → CheckPlace → List Cell → List PlainType → Checks
values_checks w p [] ts = []
values_checks w p (c ∷ cs) [] = []
values_checks w p (c ∷ cs) (t ∷ ts) = cell_checks w p c t ++ values_checks w p cs ts

-- first values, and the types of their cells
abbrev pub values_part : PlainFirmware → CheckPlace → List Cell → List PlainType → Checks
values_part w p cs ts = check (nat_le (length cs) (length ts)) BadInit p ∷ values_checks w p cs ts

-- a global behind the names before it
abbrev pub global_part : (declared : List (List ℕ)) → PlainFirmware → (seen : List (List ℕ)) → PlainGlobal → Checks
global_part ds w seen g = named_check ds seen g ++ size_check w (place.Global g.name) g.ty ++ cells_part w (place.Global g.name) g.init g.ty

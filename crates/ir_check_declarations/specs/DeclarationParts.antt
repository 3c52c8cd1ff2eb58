-- Beyond the program's claim: only laws, proofs and functions inside the tool cite this file.
-- The checks of a file.
use Rattle.std.specs.Prelude.{ℕ, List, ◌∷◌}
use Rattle.ir_model.specs.declared.check.CheckPlace.TheVariants as place
use Rattle.ir_model.specs.Plain.{PlainFile}
use Rattle.ir_model.specs.Typing.{func_name_checks, Checks, is_new}

-- a file's name and those of its functions
abbrev pub file_part : (files seen : List (List ℕ)) → PlainFile → Checks
file_part es seen f = is_new es f.name (place.File f.name) ∷ func_name_checks seen f.funcs

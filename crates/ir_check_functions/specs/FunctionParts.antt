-- Beyond the program's claim: only laws, proofs and functions inside the tool cite this file.
-- The checks of a function and of its code.
use Rattle.std.specs.Prelude.{ℕ, List, [], ◌∷◌, ◌++◌}
use Rattle.ir_model.specs.declared.check.CheckKind.TheVariants.{IllTyped}
use Rattle.ir_model.specs.declared.check.CheckPlace.{CheckPlace}
use Rattle.ir_model.specs.declared.check.CheckPlace.TheVariants as place
use Rattle.ir_model.specs.declared.firmware.Inst.{Inst}
use Rattle.ir_model.specs.declared.firmware.Term.{Term}
use Rattle.ir_model.specs.Plain.{PlainFunc, PlainFirmware}
use Rattle.ir_model.specs.Rules.{inst_fits, term_fits}
use Rattle.ir_model.specs.Typing.{inst_names, term_names, label_checks, blocks_checks, Checks, check}
use Rattle.ir_check_functions.specs.BindingParts.{bindings_part, frame_part}

-- an instruction or a block's end: its names, and then its types
abbrev pub inst_check : PlainFirmware → PlainFunc → CheckPlace → Inst → Checks
inst_check w f p i = inst_names w f p i ++ check (inst_fits w f i) IllTyped p ∷ []

abbrev pub term_check : PlainFunc → CheckPlace → Term → Checks
term_check f p t = term_names f p t ++ check (term_fits f t) IllTyped p ∷ []

-- a function's labels and code; its bindings, its frame, and its code
abbrev pub body_part : PlainFirmware → PlainFunc → Checks
body_part w f = label_checks (place.Func f.name) [] f.blocks ++ blocks_checks w f f.blocks

abbrev pub func_part : (declared : List (List ℕ)) → PlainFirmware → PlainFunc → Checks
func_part ds w f = bindings_part ds w f ++ frame_part w f ++ body_part w f

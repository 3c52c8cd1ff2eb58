-- Beyond the program's claim: only laws, proofs and functions inside the tool cite this file.
-- The checks of a firmware behind those of its structs and peripherals.
use Rattle.std.specs.Prelude.{[], ◌∷◌, ◌++◌, map}
use Rattle.ir_model.specs.declared.check.CheckKind.TheVariants.{NoMain}
use Rattle.ir_model.specs.declared.check.CheckPlace.TheVariants as place
use Rattle.ir_model.specs.declared.firmware.Peripheral.{Peripheral}
use Rattle.ir_model.specs.Plain.{PlainGlobal, PlainFirmware, funcs_of}
use Rattle.ir_model.specs.Typing.{globals_checks, file_checks, funcs_checks, has_main, Checks, check}

-- globals, files, functions, and that there is a main
abbrev pub code_part : PlainFirmware → Checks
code_part w =
    globals_checks w (map (λ (q : Peripheral). q.name) w.periphs) w.globals
    ++ file_checks [] (map (λ (q : Peripheral). q.name) w.periphs ++ map (λ (g : PlainGlobal). g.name) w.globals) w.files
    ++ funcs_checks w (funcs_of w)
    ++ check (has_main w) NoMain place.Whole ∷ []

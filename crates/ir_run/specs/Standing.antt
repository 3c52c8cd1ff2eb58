-- Beyond the program's claim: only laws, proofs and functions inside the tool cite this file.
-- What stands at a place, as the definition's.
use Rattle.std.specs.Prelude.{ℕ, List}
use Rattle.ir_model.specs.Layout.{Known}
use Rattle.ir_model.specs.Resolved as plain
use Rattle.ir_program.specs.Parts.{operation_of, exit_of}
use Rattle.ir_run.specs.declared.place.Here.{Here}
use Rattle.ir_run.specs.declared.place.Here.TheVariants.{Does, Ends}
use Rattle.ir_run.specs.Places.{HasNext}

abbrev pub here_of : List Known → Here → plain.Here
here_of ks (Does operation) = plain.Does (operation_of ks operation.now)
here_of ks (Ends exit) = plain.Ends (exit_of exit)

-- behind an instruction there is a place
abbrev pub HasPlaceBehind : Here → ℕ → Type 0
HasPlaceBehind (Does operation) place = HasNext place
HasPlaceBehind (Ends exit) place = Unit {0}

-- Beyond the program's claim: only laws, proofs and functions inside the tool cite this file.
-- The checks of a peripheral and of a struct, one part among others.
use Rattle.std.specs.Prelude.{ℕ, List, [], ◌∷◌, map}
use Rattle.ir_model.specs.declared.check.CheckKind.TheVariants.{BadWindow, WindowOverlap}
use Rattle.ir_model.specs.declared.check.CheckPlace.{CheckPlace}
use Rattle.ir_model.specs.declared.check.CheckPlace.TheVariants as place
use Rattle.ir_model.specs.declared.firmware.Peripheral.{Peripheral}
use Rattle.ir_model.specs.Plain.{PlainBinding, PlainStruct}
use Rattle.ir_model.specs.Typing.{field_checks, Checks, check, is_new, type_checks, is_window, is_apart}

-- a peripheral behind others
abbrev pub periph_check : (earlier : List Peripheral) → Peripheral → Checks
periph_check es q =
    is_new (map (λ (e : Peripheral). e.name) es) q.name (place.Periph q.name)
    ∷ check (is_window q) BadWindow (place.Periph q.name)
    ∷ check (is_apart es q) WindowOverlap (place.Periph q.name)
    ∷ []

-- a field; a struct's name and fields
abbrev pub field_check : (declared earlier : List (List ℕ)) → CheckPlace → (seen : List (List ℕ)) → PlainBinding → Checks
field_check ds es p seen s = is_new seen s.name p ∷ type_checks ds es p s.ty

abbrev pub fields_part : (declared earlier : List (List ℕ)) → PlainStruct → Checks
fields_part ds es s = is_new es s.name (place.Struct s.name) ∷ field_checks ds es (place.Struct s.name) [] s.fields

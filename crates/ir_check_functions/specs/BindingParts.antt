-- Beyond the program's claim: only laws, proofs and functions inside the tool cite this file.
-- The checks of a function's parameters, result, locals and registers, and of its frame.
use Rattle.std.specs.Prelude.{ℕ, List, [], ◌∷◌, ◌++◌, nat_le}
use Rattle.ir_model.specs.declared.check.CheckKind.TheVariants.{IllTyped, FrameTooLarge}
use Rattle.ir_model.specs.declared.check.CheckPlace.{CheckPlace}
use Rattle.ir_model.specs.declared.check.CheckPlace.TheVariants as place
use Rattle.ir_model.specs.Types.{is_register_type}
use Rattle.ir_model.specs.Plain.{PlainBinding, PlainFunc, PlainFirmware, names_of}
use Rattle.ir_model.specs.Layout.{known}
use Rattle.ir_model.specs.Frames.{frame_size}
use Rattle.ir_model.specs.Typing.{register_checks, outcome_checks, local_checks, frame_limit, Checks, check, is_new, type_checks}
use Rattle.ir_check_scopes.specs.Parts.{size_check}

-- a parameter or a register
abbrev pub register_check : (declared : List (List ℕ)) → CheckPlace → (seen : List (List ℕ)) → PlainBinding → Checks
register_check ds p seen s = (is_new seen s.name p ∷ type_checks ds ds p s.ty) ++ check (is_register_type s.ty) IllTyped p ∷ []

-- a local's name and type; a local
abbrev pub binding_check : (declared : List (List ℕ)) → CheckPlace → (seen : List (List ℕ)) → PlainBinding → Checks
binding_check ds p seen s = is_new seen s.name p ∷ type_checks ds ds p s.ty

abbrev pub local_check : PlainFirmware → (declared : List (List ℕ)) → CheckPlace → (seen : List (List ℕ)) → PlainBinding → Checks
local_check w ds p seen s = binding_check ds p seen s ++ size_check w p s.ty

-- all bindings of a function
abbrev pub bindings_part : (declared : List (List ℕ)) → PlainFirmware → PlainFunc → Checks
bindings_part ds w f =
    let p : CheckPlace = place.Func f.name in
    register_checks ds p [] f.params
    ++ outcome_checks ds p f.outcome
    ++ local_checks w ds p (names_of f.params) f.locals
    ++ register_checks ds p (names_of f.params ++ names_of f.locals) f.regs

-- its frame
abbrev pub frame_part : PlainFirmware → PlainFunc → Checks
frame_part w f = let n : ℕ = frame_size (known w.structs) f in check (nat_le n frame_limit) (FrameTooLarge n) (place.Func f.name) ∷ []

-- No struct of a firmware that passes the checks is too large.
use Rattle.std.proofs.Common.{ℕ, List, [], ◌∷◌, ◌++◌, map, inl, inr, nat_le, arith}
use Rattle.std.proofs.lemmas.Bool.{leb-true}
use Rattle.ir_model.specs.declared.check.CheckKind.TheVariants.{ObjectTooLarge}
use Rattle.ir_model.specs.declared.check.CheckPlace.{CheckPlace}
use Rattle.ir_model.specs.declared.check.CheckPlace.TheVariants as place
use Rattle.ir_model.specs.Plain.{PlainStruct, PlainFirmware}
use Rattle.ir_model.specs.Typing.{Checks, check, is_new, object_limit, field_checks, struct_checks, structs_checks, IsTyped}
use Rattle.ir_model.proofs.Passing.{Pass, left, right, holds}
use Rattle.ir_model.proofs.Typed.{structs_named, parts_pass}
use Rattle.ir_layouts.specs.Measures.{struct_shape, IsTooLarge}
use Rattle.ir_layouts.specs.Tables.{HasTooLarge}

-- a struct that passes its checks
small : (ds : List (List ℕ)) (es : List PlainStruct) (s : PlainStruct) → Pass (struct_checks ds es s) → IsTooLarge es s → ⊥
small ds es s h t =
    let p : CheckPlace = place.Struct s.name in
    let before : List (List ℕ) = map (λ (e : PlainStruct). e.name) es in
    let size : ℕ = (struct_shape es s).size in
    let front : Checks = is_new before s.name p ∷ field_checks ds before p [] s.fields in
    let big : Checks = check (nat_le size object_limit) ObjectTooLarge p ∷ [] in
    let within = leb-true size object_limit (holds (nat_le size object_limit) ObjectTooLarge p [] (right front big h)) in
    omega (arith, within, t)

none_in : (ds : List (List ℕ)) (es ss : List PlainStruct) → Pass (structs_checks ds es ss) → HasTooLarge es ss → ⊥
none_in ds es [] h t = t
none_in ds es (s ∷ ss) h (inl t) = small ds es s (left (struct_checks ds es s) (structs_checks ds (es ++ s ∷ []) ss) h) t
none_in ds es (s ∷ ss) h (inr t) = none_in ds (es ++ s ∷ []) ss (right (struct_checks ds es s) (structs_checks ds (es ++ s ∷ []) ss) h) t

pub none_too_large : (w : PlainFirmware) → IsTyped w → HasTooLarge [] w.structs → ⊥
none_too_large w h = none_in (structs_named w) [] w.structs (parts_pass w h).structs

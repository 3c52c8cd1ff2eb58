-- One struct more.
use Rattle.std.proofs.Common.{◌≡◌, ℕ, ◌+◌, ◌<◌, ◌≤◌, ◌++◌, ◌∷◌, List, [], map, take, get_or, length, refl, sym, ap, subst, ◌∙◌, nat_le, true, false, Bool, None, arith}
use Rattle.std.proofs.lemmas.List.{map-append}
use Rattle.std.proofs.lemmas.Bool.Decides.{nat_tests}
use Rattle.ir_model.specs.declared.check.CheckKind.TheVariants.{ObjectTooLarge}
use Rattle.ir_model.specs.declared.check.CheckPlace.{CheckPlace}
use Rattle.ir_model.specs.declared.check.CheckPlace.TheVariants as place
use Rattle.ir_model.specs.declared.firmware.StructDecl.{StructDecl}
use Rattle.ir_model.specs.Plain.{PlainStruct, struct_of}
use Rattle.ir_model.specs.Typing.{Checks, check, first_failing, struct_checks}
use Rattle.ir_check_scopes.specs.declared.fault.CheckFault.{CheckFault}
use Rattle.ir_check_scopes.specs.declared.fault.CheckFault.TheVariants.{NoMemory, At}
use Rattle.ir_check_scopes.specs.Found.{Refused, IsFault}
use Rattle.ir_check_declarations.specs.StructParts.{fields_part}
use Rattle.ir_check_scopes.proofs.Order.{refused_left, refused_right, first_append}
use Rattle.ir_layouts.specs.Measures.{struct_shape, IsTooLarge}
use Rattle.ir_layouts.proofs.Places.{struct_names}
use Rattle.base_laws.proofs.Lists.{take_next}

pub more_structs : (ss : List StructDecl) (i : ℕ) (s : StructDecl) → i < length ss → s ≡ get_or ss i s → map struct_of (take (i + 1) ss) ≡ map struct_of (take i ss) ++ struct_of s ∷ []
more_structs ss i s l e = ap (map struct_of) (take_next ss i s l e) ∙ map-append struct_of (take i ss) (s ∷ [])

-- names of declarations are those of their structs
pub names_same : (ss : List StructDecl) → map (λ (s : StructDecl). s.name) ss ≡ map (λ (s : PlainStruct). s.name) (map struct_of ss)
names_same [] = refl
names_same (s ∷ ss) = ap (λ ns. s.name ∷ ns) (names_same ss)

abbrev size_part : List PlainStruct → PlainStruct → Checks
size_part ss s = check (nat_le (struct_shape ss s).size 65536) ObjectTooLarge (place.Struct s.name) ∷ []

-- a struct's checks are those of its name and fields, and of its size
split : (ds : List (List ℕ)) (ss : List StructDecl) (s : PlainStruct) → struct_checks ds (map struct_of ss) s ≡ fields_part ds (struct_names ss) s ++ size_part (map struct_of ss) s
split ds ss s = ap (λ ns. fields_part ds ns s ++ size_part (map struct_of ss) s) (sym (names_same ss))

pub step_refused : (ds : List (List ℕ)) (ss : List StructDecl) (s : PlainStruct) (e : CheckFault) → Refused (fields_part ds (struct_names ss) s) e → Refused (struct_checks ds (map struct_of ss) s) e
step_refused ds ss s e h = subst (λ cs. Refused cs e) (sym (split ds ss s)) (refused_left (fields_part ds (struct_names ss) s) (size_part (map struct_of ss) s) e h)

small_size : (ss : List PlainStruct) (s : PlainStruct) → (struct_shape ss s).size ≤ 65536 → first_failing (size_part ss s) ≡ None
small_size ss s l = let q : nat_le (struct_shape ss s).size 65536 ≡ true = grind (arith, nat_tests) in ap (λ b. first_failing (check b ObjectTooLarge (place.Struct s.name) ∷ [])) q

pub step_passes : (ds : List (List ℕ)) (ss : List StructDecl) (s : PlainStruct) → first_failing (fields_part ds (struct_names ss) s) ≡ None → (struct_shape (map struct_of ss) s).size ≤ 65536
    → first_failing (struct_checks ds (map struct_of ss) s) ≡ None
step_passes ds ss s h l =
    ap first_failing (split ds ss s) ∙ (first_append (fields_part ds (struct_names ss) s) (size_part (map struct_of ss) s) h ∙ small_size (map struct_of ss) s l)

large_pick : (p : CheckPlace) (b : Bool) (e : CheckFault) → b ≡ false → IsFault e ObjectTooLarge p → Refused (check b ObjectTooLarge p ∷ []) e
large_pick p b NoMemory h f = tt
large_pick p true (At k q) h f = cc
large_pick p false (At k q) h f = let a = f.0 in let b = f.1 in cc

pub step_large : (ds : List (List ℕ)) (ss : List StructDecl) (s : PlainStruct) (e : CheckFault) → first_failing (fields_part ds (struct_names ss) s) ≡ None → IsTooLarge (map struct_of ss) s
    → IsFault e ObjectTooLarge (place.Struct s.name) → Refused (struct_checks ds (map struct_of ss) s) e
step_large ds ss s e h l f =
    let q : nat_le (struct_shape (map struct_of ss) s).size 65536 ≡ false = grind (arith, nat_tests) in
    subst (λ cs. Refused cs e) (sym (split ds ss s))
    (refused_right (fields_part ds (struct_names ss) s) (size_part (map struct_of ss) s) e h (large_pick (place.Struct s.name) (nat_le (struct_shape (map struct_of ss) s).size 65536) e q f))

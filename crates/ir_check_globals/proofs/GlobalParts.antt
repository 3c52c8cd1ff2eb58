-- A global's checks in parts.
use Rattle.std.proofs.Common.{◌≡◌, ℕ, zero, suc, ◌+◌, ◌<◌, ◌≤◌, true, List, [], ◌∷◌, ◌++◌, map, take, drop, get_or, ◌⊎◌, inl, inr, length, refl, sym, ap, ◌∙◌, arith, nat_le, Bor}
use Rattle.std.proofs.lemmas.Bool.{cases_lt}
use Rattle.std.proofs.lemmas.Bool.Decides.{nat_tests}
use Rattle.std.proofs.lemmas.List.{length-map, take_all, length-take-le}
use Rattle.ir_model.specs.declared.types.Ty.{Ty}
use Rattle.ir_model.specs.declared.firmware.Cell.{Cell}
use Rattle.ir_model.specs.declared.check.CheckKind.TheVariants.{ObjectTooLarge, BadInit}
use Rattle.ir_model.specs.declared.check.CheckPlace.{CheckPlace}
use Rattle.ir_model.specs.declared.check.CheckPlace.TheVariants as place
use Rattle.ir_model.specs.Types.{PlainType, type_of}
use Rattle.ir_model.specs.Plain.{PlainStruct, PlainGlobal, PlainFirmware}
use Rattle.ir_model.specs.Layout.{CellPlace, known, shape}
use Rattle.ir_model.specs.Typing.{check, global_checks, init_checks, cell_checks}
use Rattle.ir_cells.specs.Cells.{lent_types, types_of}
use Rattle.ir_check_globals.specs.Parts.{named_check, cells_part, values_checks, values_part, global_part}
use Rattle.ir_check_scopes.proofs.Regrouped.{regroup}

values_same : (w : PlainFirmware) (p : CheckPlace) (cs : List Cell) (ts : List CellPlace) → init_checks w p cs ts ≡ values_checks w p cs (types_of ts)
values_same w p [] ts = refl
values_same w p (c ∷ cs) [] = refl
values_same w p (c ∷ cs) (t ∷ ts) = ap (λ xs. cell_checks w p c t.ty ++ xs) (values_same w p cs ts)

-- as many types as there are values are enough
values_taken : (w : PlainFirmware) (p : CheckPlace) (cs : List Cell) (ts : List PlainType) → values_checks w p cs (take (length cs) ts) ≡ values_checks w p cs ts
values_taken w p [] ts = refl
values_taken w p (c ∷ cs) [] = refl
values_taken w p (c ∷ cs) (t ∷ ts) = ap (λ xs. cell_checks w p c t ++ xs) (values_taken w p cs ts)

length_taken : (n : ℕ) (ts : List PlainType) → nat_le n (length (take n ts)) ≡ nat_le n (length ts)
length_taken n ts = by_size (cases_lt (length ts) n)
  where
    by_size : (length ts < n) ⊎ (n ≤ length ts) → nat_le n (length (take n ts)) ≡ nat_le n (length ts)
    by_size (inl l) = ap (λ (xs : List PlainType). nat_le n (length xs)) (take_all n ts (omega arith))
    by_size (inr l) = let e = length-take-le n ts l in let q : nat_le n (length (take n ts)) ≡ true = grind (arith, nat_tests) in let r : nat_le n (length ts) ≡ true = grind (arith, nat_tests) in q ∙ sym r

pub cells_parts : (w : PlainFirmware) (p : CheckPlace) (cs : List Cell) (t : PlainType) (ts : List PlainType) → ts ≡ take (length cs) (types_of (shape (known w.structs) t).cells) → cells_part w p cs t ≡ values_part w p cs ts
cells_parts w p cs t ts e =
    let us : List PlainType = types_of (shape (known w.structs) t).cells in
    ap (λ n. check (nat_le (length cs) n) BadInit p ∷ init_checks w p cs (shape (known w.structs) t).cells) (sym (length-map (shape (known w.structs) t).cells (λ (c : CellPlace). c.ty)))
    ∙ (ap (λ xs. check (nat_le (length cs) (length us)) BadInit p ∷ xs) (values_same w p cs (shape (known w.structs) t).cells ∙ sym (values_taken w p cs us))
    ∙ (ap (λ b. check b BadInit p ∷ values_checks w p cs (take (length cs) us)) (sym (length_taken (length cs) us)) ∙ ap (λ us. values_part w p cs us) (sym e)))

pub values_next : (w : PlainFirmware) (p : CheckPlace) (cs : List Cell) (ts : List (Bor Ty)) (i : ℕ) (x : Cell) (y : Bor Ty) → i < length cs → i < length ts → x ≡ get_or cs i x → y ≡ get_or ts i y
    → values_checks w p (drop i cs) (lent_types (drop i ts)) ≡ cell_checks w p x (type_of y.now) ++ values_checks w p (drop (i + 1) cs) (lent_types (drop (i + 1) ts))
values_next w p [] ts i x y l m e f = absurd (omega arith)
values_next w p (c ∷ cs) [] i x y l m e f = absurd (omega arith)
values_next w p (c ∷ cs) (t ∷ ts) zero x y l m e f =
    ap (λ z. cell_checks w p z (type_of t.now) ++ values_checks w p cs (lent_types ts)) (sym e)
    ∙ ap (λ (z : Bor Ty). cell_checks w p x (type_of z.now) ++ values_checks w p cs (lent_types ts)) (sym f)
values_next w p (c ∷ cs) (t ∷ ts) (suc i) x y l m e f =
    let q : suc i + 1 ≡ suc (i + 1) = omega arith in
    values_next w p cs ts i x y (omega arith) (omega arith) e f
    ∙ ap (λ n. cell_checks w p x (type_of y.now) ++ values_checks w p (drop n (c ∷ cs)) (lent_types (drop n (t ∷ ts)))) (sym q)

pub global_parts : (w : PlainFirmware) (seen : List (List ℕ)) (g : PlainGlobal) (ds : List (List ℕ)) → ds ≡ map (λ (s : PlainStruct). s.name) w.structs → global_checks w seen g ≡ global_part ds w seen g
global_parts w seen g ds e =
    regroup (named_check (map (λ (s : PlainStruct). s.name) w.structs) seen g)
    (check (nat_le (length g.init) (length (shape (known w.structs) g.ty).cells)) BadInit (place.Global g.name) ∷ [])
    (init_checks w (place.Global g.name) g.init (shape (known w.structs) g.ty).cells)
    (check (nat_le (shape (known w.structs) g.ty).size 65536) ObjectTooLarge (place.Global g.name))
    ∙ ap (λ d. global_part d w seen g) (sym e)

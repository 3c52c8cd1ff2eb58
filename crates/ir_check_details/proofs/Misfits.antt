-- The first value that does not fit, along a loop and beside only so many cells as there are values.
use Rattle.std.proofs.Common.{◌≡◌, ℕ, zero, suc, ◌+◌, ◌<◌, ◌≤◌, Bool, true, false, not, ◌&&◌, List, [], ◌∷◌, ◌++◌, is_some, map, take, drop, get_or, ◌⊎◌, inl, inr, length, refl, sym, ap, ◌∙◌, subst, arith, append_assoc, nat_le, Option, Some, None, ◌||◌, if◌then◌else◌, Bor}
use Rattle.std.proofs.lemmas.Bool.{cases_lt}
use Rattle.std.proofs.lemmas.Bool.Decides.{nat_tests}
use Rattle.std.proofs.lemmas.List.{take_all, length-take-le}
use Rattle.ir_model.specs.declared.types.Ty.{Ty}
use Rattle.ir_model.specs.declared.firmware.Cell.{Cell}
use Rattle.ir_model.specs.declared.check.CheckKind.{CheckKind}
use Rattle.ir_model.specs.declared.check.CheckKind.TheVariants.{Unknown, BadInit}
use Rattle.ir_model.specs.declared.firmware.Cell.TheVariants.{Function, Address}
use Rattle.ir_model.specs.declared.firmware.Peripheral.{Peripheral}
use Rattle.ir_model.specs.declared.check.CheckPlace.{CheckPlace}
use Rattle.ir_model.specs.declared.check.CheckPlace.TheVariants as place
use Rattle.ir_model.specs.Types.{PlainType, type_of}
use Rattle.ir_model.specs.Plain.{PlainFunc, PlainGlobal, PlainFirmware, funcs_of}
use Rattle.ir_model.specs.Rules.{is_type, func_type}
use Rattle.base_names.specs.Numbers.{has}
use Rattle.ir_model.specs.Typing.{check, first_failing, declared_checks}
use Rattle.ir_cells.specs.Cells.{lent_types}
use Rattle.ir_check_scopes.specs.Parts.{address_fits}
use Rattle.ir_check_details.specs.FirstValues.{fits, values_lines, value_lines, init_lines, too_many_lines, cell_types, global_lines, unless_failing}

-- ---- checks that pass

two_checks : (a b : Bool) (k l : CheckKind) (p : CheckPlace) → (a && b) ≡ not (is_some (first_failing (check a k p ∷ check b l p ∷ [])))
two_checks true true k l p = refl
two_checks true false k l p = refl
two_checks false b k l p = refl

pub of_function : (w : PlainFirmware) (p : CheckPlace) (c : Cell) (f : List ℕ) (t : PlainType) (b : Bool)
    → b ≡ (has (map (λ (g : PlainFunc). g.name) (funcs_of w)) f && is_type (func_type (funcs_of w) f) t) → c ≡ Function f → b ≡ fits w p c t
of_function w p c f t b e i =
    subst (λ d. b ≡ fits w p d t) (sym i) (e ∙ two_checks (has (map (λ (g : PlainFunc). g.name) (funcs_of w)) f) (is_type (func_type (funcs_of w) f) t) (Unknown f) BadInit p)

pub of_address : (w : PlainFirmware) (p : CheckPlace) (c : Cell) (x : List ℕ) (t : PlainType) (b : Bool)
    → b ≡ ((has (map (λ (q : Peripheral). q.name) w.periphs) x || has (map (λ (g : PlainGlobal). g.name) w.globals) x) && address_fits w x t) → c ≡ Address x → b ≡ fits w p c t
of_address w p c x t b e i =
    subst (λ d. b ≡ fits w p d t) (sym i)
    (e ∙ two_checks (has (map (λ (q : Peripheral). q.name) w.periphs) x || has (map (λ (g : PlainGlobal). g.name) w.globals) x) (address_fits w x t) (Unknown x) BadInit p)

-- ---- pieces behind one another

behind : (o p a rest : List ℕ) → p ≡ o ++ a → p ++ rest ≡ o ++ (a ++ rest)
behind o p a rest e = ap (λ z. z ++ rest) e ∙ append_assoc o a rest

onto : (o p q a b : List ℕ) → p ≡ o ++ a → q ≡ p ++ b → q ≡ o ++ (a ++ b)
onto o p q a b e f = f ∙ behind o p a b e

pub five_pieces : (s t u v x y a b c d e : List ℕ) → t ≡ s ++ a → u ≡ t ++ b → v ≡ u ++ c → x ≡ v ++ d → y ≡ x ++ e → y ≡ s ++ ((((a ++ b) ++ c) ++ d) ++ e)
five_pieces s t u v x y a b c d e h i j k l =
    onto s x y (((a ++ b) ++ c) ++ d) e (onto s v x ((a ++ b) ++ c) d (onto s u v (a ++ b) c (onto s t u a b h i) j) k) l

append_none : (xs : List ℕ) → xs ≡ xs ++ []
append_none [] = refl
append_none (x ∷ xs) = ap (λ ys. x ∷ ys) (append_none xs)

-- ---- along a loop

abbrev pub lines_from : PlainFirmware → CheckPlace → (number : ℕ) → List Cell → List (Bor Ty) → List ℕ
lines_from w p k cs ts = values_lines w p k cs (lent_types ts)

pub values_next : (w : PlainFirmware) (p : CheckPlace) (k : ℕ) (cs : List Cell) (ts : List (Bor Ty)) (i : ℕ) (x : Cell) (y : Bor Ty) → i < length cs → i < length ts → x ≡ get_or cs i x → y ≡ get_or ts i y
    → lines_from w p k (drop i cs) (drop i ts) ≡ (if fits w p x (type_of y.now) then lines_from w p (suc k) (drop (i + 1) cs) (drop (i + 1) ts) else value_lines k x (type_of y.now))
values_next w p k [] ts i x y l m e f = absurd (omega arith)
values_next w p k (c ∷ cs) [] i x y l m e f = absurd (omega arith)
values_next w p k (c ∷ cs) (t ∷ ts) zero x y l m e f =
    ap (λ z. if fits w p z (type_of t.now) then lines_from w p (suc k) cs ts else value_lines k z (type_of t.now)) (sym e)
    ∙ ap (λ (z : Bor Ty). if fits w p x (type_of z.now) then lines_from w p (suc k) cs ts else value_lines k x (type_of z.now)) (sym f)
values_next w p k (c ∷ cs) (t ∷ ts) (suc i) x y l m e f =
    let q : suc i + 1 ≡ suc (i + 1) = omega arith in
    values_next w p k cs ts i x y (omega arith) (omega arith) e f
    ∙ ap (λ n. if fits w p x (type_of y.now) then lines_from w p (suc k) (drop n (c ∷ cs)) (drop n (t ∷ ts)) else value_lines k x (type_of y.now)) (sym q)

pub one_misfits : (w : PlainFirmware) (p : CheckPlace) (cs : List Cell) (ts : List (Bor Ty)) (i : ℕ) (x : Cell) (y : Bor Ty) → i < length cs → i < length ts → x ≡ get_or cs i x → y ≡ get_or ts i y
    → lines_from w p 1 cs ts ≡ lines_from w p (i + 1) (drop i cs) (drop i ts) → false ≡ fits w p x (type_of y.now) → lines_from w p 1 cs ts ≡ value_lines (i + 1) x (type_of y.now)
one_misfits w p cs ts i x y l m e f h b =
    h ∙ (values_next w p (i + 1) cs ts i x y l m e f
    ∙ ap (λ a. if a then lines_from w p (suc (i + 1)) (drop (i + 1) cs) (drop (i + 1) ts) else value_lines (i + 1) x (type_of y.now)) (sym b))

none_left : (w : PlainFirmware) (p : CheckPlace) (k i : ℕ) (cs : List Cell) (us : List PlainType) → length cs ≤ i → values_lines w p k (drop i cs) us ≡ []
none_left w p k zero [] us l = refl
none_left w p k (suc i) [] us l = refl
none_left w p k zero (c ∷ cs) us l = absurd (omega arith)
none_left w p k (suc i) (c ∷ cs) us l = none_left w p k i cs us (omega arith)

pub all_fit : (w : PlainFirmware) (p : CheckPlace) (cs : List Cell) (ts : List (Bor Ty)) (i : ℕ) (o s : List ℕ) → length cs ≤ i → o ≡ s → lines_from w p 1 cs ts ≡ lines_from w p (i + 1) (drop i cs) (drop i ts)
    → o ≡ s ++ lines_from w p 1 cs ts
all_fit w p cs ts i o s l e h = e ∙ (append_none s ∙ ap (λ ls. s ++ ls) (sym (h ∙ none_left w p (i + 1) i cs (lent_types (drop i ts)) l)))

-- ---- as many types as there are values are enough

values_taken : (w : PlainFirmware) (p : CheckPlace) (k : ℕ) (cs : List Cell) (ts : List PlainType) → values_lines w p k cs (take (length cs) ts) ≡ values_lines w p k cs ts
values_taken w p k [] ts = refl
values_taken w p k (c ∷ cs) [] = refl
values_taken w p k (c ∷ cs) (t ∷ ts) = ap (λ ls. if fits w p c t then ls else value_lines k c t) (values_taken w p (suc k) cs ts)

length_taken : (n : ℕ) (ts : List PlainType) → nat_le n (length ts) ≡ true → nat_le n (length (take n ts)) ≡ true
length_taken n ts h = let l : n ≤ length ts = grind (arith, nat_tests) in let e = length-take-le n ts l in grind (arith, nat_tests)

pub init_taken : (w : PlainFirmware) (g : PlainGlobal) (ts : List PlainType) → init_lines w g (take (length g.init) ts) ≡ init_lines w g ts
init_taken w g ts = by_size (cases_lt (length ts) (length g.init))
  where
    by_size : (length ts < length g.init) ⊎ (length g.init ≤ length ts) → init_lines w g (take (length g.init) ts) ≡ init_lines w g ts
    by_size (inl l) = ap (λ (us : List PlainType). init_lines w g us) (take_all (length g.init) ts (omega arith))
    by_size (inr l) =
        let q : nat_le (length g.init) (length ts) ≡ true = grind (arith, nat_tests) in
        let r : nat_le (length g.init) (length (take (length g.init) ts)) ≡ true = length_taken (length g.init) ts q in
        ap (λ b. if b then values_lines w (place.Global g.name) 1 g.init (take (length g.init) ts) else too_many_lines (length g.init) (length (take (length g.init) ts))) r
        ∙ (values_taken w (place.Global g.name) 1 g.init ts ∙ ap (λ b. if b then values_lines w (place.Global g.name) 1 g.init ts else too_many_lines (length g.init) (length ts)) (sym q))

-- ---- where no struct and no peripheral has a fault

pub of_global : (w : PlainFirmware) (g : PlainGlobal) (o : Option PlainGlobal) → first_failing (declared_checks w) ≡ None → o ≡ Some g → init_lines w g (cell_types w g.ty) ≡ global_lines w o
of_global w g o e h = ap (λ f. unless_failing f (init_lines w g (cell_types w g.ty))) (sym e) ∙ ap (λ p. global_lines w p) (sym h)

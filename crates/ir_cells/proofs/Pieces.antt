-- Cells are found piece by piece.
use Rattle.std.proofs.Common.{◌≡◌, ℕ, zero, suc, ◌+◌, ◌*◌, ◌<◌, ◌≤◌, Bool, true, false, ◌&&◌, ◌⊎◌, inl, inr, List, [], ◌∷◌, ◌++◌, length, refl, sym, ap, ◌∙◌, arith, Option, Some, None, nat_eq, if◌then◌else◌}
use Rattle.std.proofs.lemmas.Bool.{ne_eqb, eq-eqb, eqb-true, cases_Bool}
use Rattle.std.proofs.Math.Nat.{suc-mul, zero-mul}
use Rattle.ir_model.specs.Types.{PlainType, same}
use Rattle.ir_model.specs.Layout.{CellPlace, shifted, copies, one_later, cell_at}
use Rattle.ir_layouts.proofs.Sizes.{Inside, inside_shifted, inside_copies, length_shifted}

-- behind so many others
abbrev pub further : ℕ → Option ℕ → Option ℕ
further n None = None
further n (Some k) = Some (n + k)

abbrev or_further : Option ℕ → ℕ → Option ℕ → Option ℕ
or_further (Some k) n o = Some k
or_further None n o = further n o

pub further_none : (o : Option ℕ) → further zero o ≡ o
further_none None = refl
further_none (Some k) = ap Some (omega arith)

pub further_more : (n m : ℕ) (o : Option ℕ) → further n (further m o) ≡ further (n + m) o
further_more n m None = refl
further_more n m (Some k) = ap Some (omega arith)

later_further : (o : Option ℕ) (n : ℕ) (p : Option ℕ) → one_later (or_further o n p) ≡ or_further (one_later o) (suc n) p
later_further (Some k) n p = refl
later_further None n None = refl
later_further None n (Some k) = ap Some (omega arith)

append_step : (b : Bool) (o : Option ℕ) (n : ℕ) (p : Option ℕ) → (if b then Some zero else one_later (or_further o n p)) ≡ or_further (if b then Some zero else one_later o) (suc n) p
append_step true o n p = refl
append_step false o n p = later_further o n p

cell_append : (xs ys : List CellPlace) (a : ℕ) (t : PlainType) → cell_at (xs ++ ys) a t ≡ or_further (cell_at xs a t) (length xs) (cell_at ys a t)
unfolding cell_at
cell_append [] ys a t = sym (further_none (cell_at ys a t))
cell_append (c ∷ xs) ys a t =
    ap (λ o. if nat_eq c.at a && same c.ty t then Some zero else one_later o) (cell_append xs ys a t)
    ∙ append_step (nat_eq c.at a && same c.ty t) (cell_at xs a t) (length xs) (cell_at ys a t)

pub cell_right : (xs ys : List CellPlace) (a : ℕ) (t : PlainType) → cell_at xs a t ≡ None → cell_at (xs ++ ys) a t ≡ further (length xs) (cell_at ys a t)
cell_right xs ys a t e = cell_append xs ys a t ∙ ap (λ o. or_further o (length xs) (cell_at ys a t)) e

left_alone : (o : Option ℕ) (n : ℕ) → or_further o n None ≡ o
left_alone (Some k) n = refl
left_alone None n = refl

pub cell_left : (xs ys : List CellPlace) (a : ℕ) (t : PlainType) → cell_at ys a t ≡ None → cell_at (xs ++ ys) a t ≡ cell_at xs a t
cell_left xs ys a t e = cell_append xs ys a t ∙ (ap (λ o. or_further (cell_at xs a t) (length xs) o) e ∙ left_alone (cell_at xs a t) (length xs))

passed_by : (b c : Bool) (o : Option ℕ) → b ≡ false → o ≡ None → (if b && c then Some zero else one_later o) ≡ None
passed_by true c o e n = cc
passed_by false c o e n = ap one_later n

-- no cell begins there
pub cell_above : (n a : ℕ) (cs : List CellPlace) (t : PlainType) → Inside n cs → n ≤ a → cell_at cs a t ≡ None
unfolding cell_at
cell_above n a [] t h l = refl
cell_above n a (c ∷ cs) t h l = passed_by (nat_eq c.at a) (same c.ty t) (cell_at cs a t) (ne_eqb c.at a (λ e. omega (arith, h.0))) (cell_above n a cs t h.1 l)

abbrev pub From : ℕ → List CellPlace → Type 0
From n [] = Unit {0}
From n (c ∷ cs) = (n ≤ c.at) × From n cs

from_less : (n m : ℕ) (cs : List CellPlace) → n ≤ m → From m cs → From n cs
from_less n m [] l h = tt
from_less n m (c ∷ cs) l h = (omega (arith, h.0), from_less n m cs l h.1)

pub from_append : (n : ℕ) (xs ys : List CellPlace) → From n xs → From n ys → From n (xs ++ ys)
from_append n [] ys h g = g
from_append n (x ∷ xs) ys h g = (h.0, from_append n xs ys h.1 g)

pub from_shifted : (n d : ℕ) (cs : List CellPlace) → n ≤ d → From n (shifted d cs)
from_shifted n d [] l = tt
from_shifted n d (c ∷ cs) l = (omega arith, from_shifted n d cs l)

from_copies : (n at step : ℕ) (cs : List CellPlace) → From at (copies n at step cs)
from_copies zero at step cs = tt
from_copies (suc n) at step cs =
    from_append at (shifted at cs) (copies n (at + step) step cs) (from_shifted at at cs (omega arith))
    (from_less at (at + step) (copies n (at + step) step cs) (omega arith) (from_copies n (at + step) step cs))

pub cell_below : (n a : ℕ) (cs : List CellPlace) (t : PlainType) → From n cs → a < n → cell_at cs a t ≡ None
unfolding cell_at
cell_below n a [] t h l = refl
cell_below n a (c ∷ cs) t h l = passed_by (nat_eq c.at a) (same c.ty t) (cell_at cs a t) (ne_eqb c.at a (λ e. omega (arith, h.0))) (cell_below n a cs t h.1 l)

same_offset : (d n m : ℕ) → nat_eq (d + n) (d + m) ≡ nat_eq n m
same_offset d n m = by_test (cases_Bool (nat_eq n m))
  where
    by_test : (nat_eq n m ≡ true) ⊎ (nat_eq n m ≡ false) → nat_eq (d + n) (d + m) ≡ nat_eq n m
    by_test (inl e) = let q = eqb-true n m e in eq-eqb (d + n) (d + m) (ap (λ x. d + x) q) ∙ sym e
    by_test (inr e) = ne_eqb (d + n) (d + m) (λ q. let r : n ≡ m = omega (arith, q) in cc (eq-eqb n m r, e)) ∙ sym e

pub cell_shifted : (d a : ℕ) (cs : List CellPlace) (t : PlainType) → cell_at (shifted d cs) (d + a) t ≡ cell_at cs a t
unfolding cell_at
cell_shifted d a [] t = refl
cell_shifted d a (c ∷ cs) t =
    ap (λ b. if b && same c.ty t then Some zero else one_later (cell_at (shifted d cs) (d + a) t)) (same_offset d c.at a)
    ∙ ap (λ o. if nat_eq c.at a && same c.ty t then Some zero else one_later o) (cell_shifted d a cs t)

-- the cell of an array's element
pub cell_copies : (n place at step rest a : ℕ) (cs : List CellPlace) (t : PlainType) → Inside step cs → rest < step → place < n → a ≡ at + place * step + rest
    → cell_at (copies n at step cs) a t ≡ further (place * length cs) (cell_at cs rest t)
cell_copies zero place at step rest a cs t i r p e = absurd (omega arith)
cell_copies (suc n) zero at step rest a cs t i r p e =
    let q : a ≡ at + rest = omega (arith, e) in
    cell_left (shifted at cs) (copies n (at + step) step cs) a t (cell_below (at + step) a (copies n (at + step) step cs) t (from_copies n (at + step) step cs) (omega arith))
    ∙ (ap (λ x. cell_at (shifted at cs) x t) q ∙ (cell_shifted at rest cs t ∙ (sym (further_none (cell_at cs rest t)) ∙ ap (λ x. further x (cell_at cs rest t)) (sym (zero-mul (length cs))))))
cell_copies (suc n) (suc place) at step rest a cs t i r p e =
    let m = suc-mul place step in
    let q : a ≡ at + step + place * step + rest = omega (arith, e, m) in
    let l : at + step ≤ a = omega (arith, q) in
    let c = suc-mul place (length cs) in
    let s = length_shifted at cs in
    let k : length (shifted at cs) + place * length cs ≡ suc place * length cs = omega (arith, c, s) in
    cell_right (shifted at cs) (copies n (at + step) step cs) a t (cell_above (at + step) a (shifted at cs) t (inside_shifted at step cs i) l)
    ∙ (ap (further (length (shifted at cs))) (cell_copies n place (at + step) step rest a cs t i r (omega arith) q)
    ∙ (further_more (length (shifted at cs)) (place * length cs) (cell_at cs rest t) ∙ ap (λ x. further x (cell_at cs rest t)) k))

pub cell_past_copies : (n a step : ℕ) (cs : List CellPlace) (t : PlainType) → Inside step cs → n * step ≤ a → cell_at (copies n 0 step cs) a t ≡ None
cell_past_copies n a step cs t i l = cell_above (0 + n * step) a (copies n 0 step cs) t (inside_copies n 0 step cs i) (omega arith)

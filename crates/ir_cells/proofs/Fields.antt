-- The cells of a struct are those of its fields, one field behind the other.
use Rattle.std.proofs.Common.{◌≡◌, ℕ, zero, suc, ◌+◌, ◌<◌, ◌≤◌, List, [], ◌∷◌, ◌++◌, take, get_or, length, sym, ap, ◌∙◌, arith, None, length-append}
use Rattle.std.proofs.lemmas.List.{append_assoc, append-nil}
use Rattle.ir_model.specs.Types.{PlainType}
use Rattle.ir_model.specs.Plain.{PlainBinding, PlainStruct}
use Rattle.ir_model.specs.Layout.{CellPlace, FieldPlace, Shape, Known, shape, shifted, rounded_up, with_field, laid_out, field_places, known, cell_at}
use Rattle.ir_model.proofs.Counting.{rounded_at_least}
use Rattle.ir_layouts.proofs.Sizes.{good, inside_shifted}
use Rattle.ir_cells.proofs.Pieces.{further, further_none, further_more, cell_left, cell_right, cell_shifted, cell_above, cell_below, From, from_append, from_shifted}

abbrev pub fields_cells : List Known → List FieldPlace → List CellPlace
fields_cells ks [] = []
fields_cells ks (p ∷ ps) = shifted p.at (shape ks p.ty).cells ++ fields_cells ks ps

pub laid_cells : (ks : List Known) (s : Shape) (fs : List PlainBinding) → (laid_out ks s fs).cells ≡ s.cells ++ fields_cells ks (field_places ks s fs)
laid_cells ks s [] = sym (append-nil s.cells)
laid_cells ks s (f ∷ fs) =
    laid_cells ks (with_field ks s f.ty) fs
    ∙ append_assoc s.cells (shifted (rounded_up s.size (shape ks f.ty).align) (shape ks f.ty).cells) (fields_cells ks (field_places ks (with_field ks s f.ty) fs))

-- each field begins where what is before it has ended
abbrev pub Follow : List Known → ℕ → List FieldPlace → Type 0
Follow ks n [] = Unit {0}
Follow ks n (p ∷ ps) = (n ≤ p.at) × Follow ks (p.at + (shape ks p.ty).size) ps

pub fields_follow : (ss : List PlainStruct) (s : Shape) (fs : List PlainBinding) → Follow (known ss) s.size (field_places (known ss) s fs)
fields_follow ss s [] = tt
fields_follow ss s (f ∷ fs) =
    let g = good ss f.ty in
    (rounded_at_least s.size (shape (known ss) f.ty).align g.positive, fields_follow ss (with_field (known ss) s f.ty) fs)

follow_at : (ks : List Known) (n : ℕ) (ps : List FieldPlace) (k : ℕ) (d : FieldPlace) → Follow ks n ps → k < length ps → n ≤ (get_or ps k d).at
follow_at ks n [] k d h l = absurd (omega arith)
follow_at ks n (p ∷ ps) zero d h l = h.0
follow_at ks n (p ∷ ps) (suc k) d h l = let r = follow_at ks (p.at + (shape ks p.ty).size) ps k d h.1 (omega arith) in omega (arith, h.0, r)

-- offsets of fields do not fall
pub follow_rise : (ks : List Known) (n : ℕ) (ps : List FieldPlace) (i j : ℕ) (d : FieldPlace) → Follow ks n ps → i ≤ j → j < length ps → (get_or ps i d).at ≤ (get_or ps j d).at
follow_rise ks n [] i j d h l m = absurd (omega arith)
follow_rise ks n (p ∷ ps) zero zero d h l m = omega arith
follow_rise ks n (p ∷ ps) (suc i) zero d h l m = absurd (omega arith)
follow_rise ks n (p ∷ ps) zero (suc j) d h l m = let r = follow_at ks (p.at + (shape ks p.ty).size) ps j d h.1 (omega arith) in omega (arith, r)
follow_rise ks n (p ∷ ps) (suc i) (suc j) d h l m = follow_rise ks (p.at + (shape ks p.ty).size) ps i j d h.1 (omega arith) (omega arith)

abbrev pub AllAbove : ℕ → List FieldPlace → Type 0
AllAbove a ps = (k : ℕ) (d : FieldPlace) → k < length ps → a < (get_or ps k d).at

above_from : (ks : List Known) (a : ℕ) (ps : List FieldPlace) → AllAbove a ps → From (suc a) (fields_cells ks ps)
above_from ks a [] h = tt
above_from ks a (p ∷ ps) h =
    let b = h zero p (omega arith) in
    from_append (suc a) (shifted p.at (shape ks p.ty).cells) (fields_cells ks ps) (from_shifted (suc a) p.at (shape ks p.ty).cells (omega arith))
    (above_from ks a ps (λ k d l. h (suc k) d (omega arith)))

pub cell_before_fields : (ks : List Known) (a : ℕ) (ps : List FieldPlace) (t : PlainType) → AllAbove a ps → cell_at (fields_cells ks ps) a t ≡ None
cell_before_fields ks a ps t h = cell_below (suc a) a (fields_cells ks ps) t (above_from ks a ps h) (omega arith)

-- the cell of a struct is one of the last field that does not begin behind it
pub cell_in_field : (ss : List PlainStruct) (n : ℕ) (ps : List FieldPlace) (j : ℕ) (d : FieldPlace) (a : ℕ) (t : PlainType)
    → Follow (known ss) n ps → j < length ps → (get_or ps j d).at ≤ a → ((k : ℕ) (d : FieldPlace) → j < k → k < length ps → a < (get_or ps k d).at)
    → (rest : ℕ) → a ≡ (get_or ps j d).at + rest
    → cell_at (fields_cells (known ss) ps) a t
    ≡ further (length (fields_cells (known ss) (take j ps))) (cell_at (shape (known ss) (get_or ps j d).ty).cells rest t)
cell_in_field ss n [] j d a t h l b u rest e = absurd (omega arith)
cell_in_field ss n (p ∷ ps) zero d a t h l b u rest e =
    cell_left (shifted p.at (shape (known ss) p.ty).cells) (fields_cells (known ss) ps) a t
    (cell_before_fields (known ss) a ps t (λ k d m. u (suc k) d (omega arith) (omega arith)))
    ∙ (ap (λ x. cell_at (shifted p.at (shape (known ss) p.ty).cells) x t) e
    ∙ (cell_shifted p.at rest (shape (known ss) p.ty).cells t ∙ sym (further_none (cell_at (shape (known ss) p.ty).cells rest t))))
cell_in_field ss n (p ∷ ps) (suc j) d a t h l b u rest e =
    let cs : List CellPlace = shifted p.at (shape (known ss) p.ty).cells in
    let g = good ss p.ty in
    let m = follow_at (known ss) (p.at + (shape (known ss) p.ty).size) ps j d h.1 (omega arith) in
    let r = cell_in_field ss (p.at + (shape (known ss) p.ty).size) ps j d a t h.1 (omega arith) b (λ k d x y. u (suc k) d (omega arith) (omega arith)) rest e in
    cell_right cs (fields_cells (known ss) ps) a t
    (cell_above (p.at + (shape (known ss) p.ty).size) a cs t (inside_shifted p.at (shape (known ss) p.ty).size (shape (known ss) p.ty).cells g.inside) (omega (arith, m, b)))
    ∙ (ap (further (length cs)) r
    ∙ (further_more (length cs) (length (fields_cells (known ss) (take j ps))) (cell_at (shape (known ss) (get_or ps j d).ty).cells rest t)
    ∙ ap (λ x. further x (cell_at (shape (known ss) (get_or ps j d).ty).cells rest t)) (sym (length-append cs (fields_cells (known ss) (take j ps))))))

-- The first values of the cells of a global, one more; and the block of the globals of none.
use Rattle.std.proofs.Common.{◌≡◌, ◌≢◌, ℕ, zero, suc, ◌+◌, List, [], ◌∷◌, length, drop, Option, Some, None, slice_get, refl, ap, sym, ◌∙◌, add-one, subst, arith}
use Rattle.std.specs.Prelude.{unwrap_or}
use Rattle.std.proofs.lemmas.List.{drop_all}
use Rattle.base_words.specs.Bytes.{write}
use Rattle.ir_model.specs.Types.{width_of}
use Rattle.ir_model.specs.Layout.{CellPlace}
use Rattle.ir_model.specs.Resolve.{zero_of, filled}
use Rattle.ir_model.specs.Resolved.{Value}
use Rattle.plan_model.specs.declared.plan.Plan.{Plan}
use Rattle.plan_model.specs.Placement.{no_spot}
use Rattle.code_model.specs.declared.places.Places.{Places}
use Rattle.image_model.specs.FirstWords.{first_word, with_cells}
use Rattle.image_model.specs.LinkedTables.{filled_unwritten}
use Rattle.image_blocks.specs.Filling.{first_in}

abbrev left : Places → (at k : ℕ) → List CellPlace → List Value → (memory : List ℕ) → List ℕ
left q at k cs vs mem = with_cells q at (drop k cs) (filled (drop k cs) (drop k vs)) mem

abbrev IsNothing : Option CellPlace → Type 0
IsNothing None = Unit {0}
IsNothing (Some c) = ⊥

no_cell : {c : CellPlace} → None ≡ Some c → ⊥
no_cell e = subst IsNothing e tt

cells_next : (q : Places) (at : ℕ) (cs : List CellPlace) (vs : List Value) (mem : List ℕ) (k : ℕ) (c : CellPlace) → slice_get cs k ≡ Some c →
    left q at k cs vs mem ≡ left q at (suc k) cs vs (write (width_of c.ty) (at + c.at) (first_word q (first_in vs k c.ty)) mem)
cells_next q at [] vs mem k c e = absurd (no_cell e)
cells_next q at (x ∷ cs) [] mem zero c e =
    subst (λ (o : Option CellPlace). left q at 0 (x ∷ cs) [] mem ≡ left q at 1 (x ∷ cs) [] (write (width_of (unwrap_or o x).ty) (at + (unwrap_or o x).at) (first_word q (zero_of (unwrap_or o x).ty)) mem)) e refl
cells_next q at (x ∷ cs) (v ∷ vs) mem zero c e =
    subst (λ (o : Option CellPlace). left q at 0 (x ∷ cs) (v ∷ vs) mem ≡ left q at 1 (x ∷ cs) (v ∷ vs) (write (width_of (unwrap_or o x).ty) (at + (unwrap_or o x).at) (first_word q v) mem)) e refl
cells_next q at (x ∷ cs) [] mem (suc k) c e =
    ap (λ (vs : List Value). with_cells q at (drop k cs) (filled (drop k cs) vs) mem) (sym (drop_all k [] (omega arith))) ∙ cells_next q at cs [] mem k c e
cells_next q at (x ∷ cs) (v ∷ vs) mem (suc k) c e = cells_next q at cs vs mem k c e

pub cells_more : (q : Places) (at : ℕ) (cs : List CellPlace) (vs : List Value) (mem : List ℕ) (k : ℕ) (c : CellPlace) → slice_get cs k ≡ Some c →
    with_cells q at (drop k cs) (filled (drop k cs) (drop k vs)) mem
    ≡ with_cells q at (drop (k + 1) cs) (filled (drop (k + 1) cs) (drop (k + 1) vs)) (write (width_of c.ty) (at + c.at) (first_word q (first_in vs k c.ty)) mem)
cells_more q at cs vs mem k c e =
    cells_next q at cs vs mem k c e ∙ ap (λ n. left q at n cs vs (write (width_of c.ty) (at + c.at) (first_word q (first_in vs k c.ty)) mem)) (sym (add-one k))

-- ---- the block of the globals of no data region

pub none_unwritten : (l : Plan) (xs : List ℕ) → length xs ≡ 0 → filled_unwritten l xs ≡ []
none_unwritten l [] e = refl
none_unwritten l (x ∷ xs) e = absurd (omega arith)

pub some_unwritten : (l : Plan) (xs : List ℕ) → length xs ≢ 0 → filled_unwritten l xs ≡ record { base = (unwrap_or l.unwritten no_spot).base; globals = xs } ∷ []
some_unwritten l [] e = absurd (e refl)
some_unwritten l (x ∷ xs) e = refl

use Rattle.std.proofs.Common.{◌≡◌, ◌+◌, ℕ, List, map, drop, ap, sym, ◌∙◌}
use Rattle.std.proofs.lemmas.List.{drop_all}
use Rattle.base_words.specs.Bytes.{write}
use Rattle.ir_cells.specs.Cells.{cell_of}
use Rattle.image_blocks.proofs.Cells.{cells_more}
use Rattle.ir_model.specs.Types.{type_of, width_of}
use Rattle.ir_model.specs.Layout.{CellPlace, shape}
use Rattle.ir_model.specs.Resolve.{filled}
use Rattle.ir_program.specs.Seen.{known_of}
use Rattle.ir_program.specs.Values.{value_of}
use Rattle.image_model.specs.FirstWords.{first_word, with_cells}
use Rattle.image_blocks.specs.Filling.{object_places, first_in}
use Rattle.image_blocks.proofs.fill.put_cells.Goals as goal

pub returns-in_default : goal.returns-in_default
returns-in_default c =
    let cs = (shape (known_of c.args.program.now) (type_of c.args.variable.now.storage.ty.now)).cells in
    let k = c.loop-number.number in
    let e = drop_all k cs c.in_default.ensures in
    sym (ap (λ (xs : List CellPlace). with_cells (object_places c.args.addresses.now) c.args.at xs (filled xs (drop k (map value_of c.args.variable.now.init))) c.loop-number.memory) e)
    ∙ c.loop-number.invariant

pub loop-number-preserved : goal.loop-number-preserved
loop-number-preserved c =
    let cs = (shape (known_of c.args.program.now) (type_of c.args.variable.now.storage.ty.now)).cells in
    let vs = map value_of c.args.variable.now.init in
    let k = c.loop-number.number in
    let q = object_places c.args.addresses.now in
    let at = c.args.at in
    let mem = c.loop-number.memory in
    let x = cell_of c.in-Some.cell in
    let step = cells_more q at cs vs mem k x c.in-Some.ensures in
    let F : List ℕ → List ℕ = λ m. with_cells q at (drop (k + 1) cs) (filled (drop (k + 1) cs) (drop (k + 1) vs)) m in
    let w : c.put_word.new.memory ≡ write (width_of x.ty) (at + x.at) (first_word q (first_in vs k x.ty)) mem =
    c.in_ok-put_word.ensures
    ∙ ap (λ n. write n c.in_ok-checked_add.field-0 c.in_ok-word.word mem) c.cell_width.ensures
    ∙ ap (λ a. write (width_of x.ty) a c.in_ok-word.word mem) c.in_ok-checked_add.ensures.1
    ∙ ap (λ v. write (width_of x.ty) (at + x.at) v mem) (c.in_ok-word.ensures ∙ ap (λ v. first_word q v) c.first_value-value.ensures) in
    ap F w ∙ sym step ∙ c.loop-number.invariant

use Rattle.std.proofs.Common.{◌≡◌, List, map, subst, sym, ap, ◌∙◌, arith}
use Rattle.std.proofs.lemmas.List.{length-map}
use Rattle.std.proofs.lemmas.Result.{on_ok_weaker}
use Rattle.ir_model.specs.Signatures.{row_length}
use Rattle.ir_model.specs.Plain.{binding_of}
use Rattle.machine_thumb.specs.declared.table.Instr.{Instr}
use Rattle.code_model.specs.FrameShape.{frame_shape}
use Rattle.code_model.specs.Places.{Lend}
use Rattle.code_model.specs.Words.{plain}
use Rattle.code_model.specs.Entry.{enter_code}
use Rattle.code_model.specs.Templates.{entry_items, lends_of}
use Rattle.code_lower.specs.Subjects.{func_of, lend_of}
use Rattle.code_model.specs.Emitted.{with_more, HasRoom}
use Rattle.code_lower.proofs.Whole.{words_few, words_more}
use Rattle.code_lower.proofs.templates.put_entry.Goals as goal
use Rattle.ir_laws.proofs.Resolved.{rows_length}

pub put_enter-requires-clause-few : goal.put_enter-requires-clause-few
put_enter-requires-clause-few c =
    let s = c.args.subject.now in
    let h = words_few s.places.now (func_of s) c.requires.subject.fits in
    let w = c.requires.subject.words in
    omega arith

pub put_enter-requires-clause-params_few : goal.put_enter-requires-clause-params_few
put_enter-requires-clause-params_few c =
    let s = c.args.subject.now in
    let ps = s.routine.now.source.now.params in
    let n = rows_length (map binding_of ps) in
    let m = length-map ps binding_of in
    let f = c.requires.subject.fits.params in
    omega (arith, c.len-params.ensures)

pub put_enter-requires-clause-inside : goal.put_enter-requires-clause-inside
put_enter-requires-clause-inside c =
    let s = c.args.subject.now in
    let ps = s.routine.now.source.now.params in
    let n = rows_length (map binding_of ps) in
    let m = length-map ps binding_of in
    let h = words_more s.places.now (func_of s) c.requires.subject.fits in
    let w = c.requires.subject.words in
    omega (arith, c.len-params.ensures)

pub put_enter-requires-clause-room : goal.put_enter-requires-clause-room
put_enter-requires-clause-room c =
    let s = c.args.subject.now in
    let g = func_of s in
    let a = c.args.asm.now in
    let ps = s.routine.now.source.now.params in
    let ds : List Lend = map lend_of c.as_slice.result.now in
    let params : c.len-params.result ≡ row_length g.params = c.len-params.ensures ∙ sym (rows_length (map binding_of ps) ∙ length-map ps binding_of) in
    let lent : ds ≡ lends_of g s.places.now = ap (map lend_of) c.as_slice.ensures.value ∙ c.requires.subject.lent in
    let e = ap (λ n. enter_code n s.words ds) params ∙ (ap (λ n. enter_code (row_length g.params) n ds) c.requires.subject.words ∙ ap (λ (xs : List Lend). enter_code (row_length g.params) (frame_shape g).words xs) lent) in
    let P : List Instr → Type 0 = λ xs. HasRoom a (plain xs) in
    subst P (sym e) c.requires.room

pub returns : goal.returns
returns c =
    let s = c.args.subject.now in
    let g = func_of s in
    let a = c.args.asm.now in
    let ps = s.routine.now.source.now.params in
    let ds : List Lend = map lend_of c.as_slice.result.now in
    let params : c.len-params.result ≡ row_length g.params = c.len-params.ensures ∙ sym (rows_length (map binding_of ps) ∙ length-map ps binding_of) in
    let lent : ds ≡ lends_of g s.places.now = ap (map lend_of) c.as_slice.ensures.value ∙ c.requires.subject.lent in
    let e = ap (λ n. enter_code n s.words ds) params ∙ (ap (λ n. enter_code (row_length g.params) n ds) c.requires.subject.words ∙ ap (λ (xs : List Lend). enter_code (row_length g.params) (frame_shape g).words xs) lent) in
    let more : with_more a (plain (enter_code c.len-params.result s.words ds)) ≡ with_more a (entry_items g s.places.now) = ap (λ (xs : List Instr). with_more a (plain xs)) e in
    on_ok_weaker c.put_enter.result (λ (h : c.put_enter.new.asm ≡ with_more a (plain (enter_code c.len-params.result s.words ds))). h ∙ more) c.put_enter.ensures

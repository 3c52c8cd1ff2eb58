use Rattle.std.proofs.Common.{◌<◌, length, get_or, ap, ◌∙◌, arith}
use Rattle.std.proofs.lemmas.List.FromFn.{get_or-map-range_with_len, length-map-range_with_len}
use Rattle.image_entries.specs.Making.{program_in, grouped, places_at}
use Rattle.code_model.specs.CompartmentCode.{entry_of}
use Rattle.image_entries.proofs.records.entry_at.Goals as goal

pub returns : goal.returns
returns c =
    let m = c.args.making.now in
    let f = entry_of (program_in m) (grouped m) (places_at m) in
    let n = length m.program.now.funcs in
    let k = c.args.func in
    let es = c.requires.entries in
    let long = ap (λ xs. length xs) es ∙ length-map-range_with_len f 0 n in
    let listed = c.as_slice-entries.ensures in
    let lt : k < n = omega (arith, long, ap (λ xs. length xs) listed, c.if-place-entries.false) in
    ap (λ xs. get_or xs k 0) listed ∙ ap (λ xs. get_or xs k 0) es ∙ get_or-map-range_with_len f 0 n k k 0 lt (omega arith)

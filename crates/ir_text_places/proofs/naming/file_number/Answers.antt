use Rattle.std.proofs.Common.{◌∙◌, ap, map}
use Rattle.ir_model.specs.Plain.{PlainFile, file_of}
use Rattle.ir_text_places.proofs.Numbered.{row_is, alone_is}
use Rattle.ir_text_places.proofs.naming.file_number.Goals as goal

pub returns : goal.returns
returns c =
    let r = row_is c.put_files.new.row.items c.new-row.result.items c.as_slice-2.result.now (map (λ (f : PlainFile). f.name) (map file_of c.as_slice.result.now)) c.new-row.ensures.items c.in_ok-put_files.ensures c.as_slice-2.ensures.value in
    alone_is c.number_alone.result c.as_slice-2.result.now _ c.is_again.result _ c.args.name.now c.number_alone.ensures c.is_again.ensures
    (r ∙ ap (λ xs. map (λ (f : PlainFile). f.name) (map file_of xs)) c.as_slice.ensures)

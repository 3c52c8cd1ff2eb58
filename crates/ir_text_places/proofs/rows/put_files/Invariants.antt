use Rattle.std.proofs.Common.{◌≡◌, ◌++◌, map, take}
use Rattle.ir_model.specs.Plain.{PlainFile, file_of}
use Rattle.ir_text_places.specs.Rows.{names_in}
use Rattle.ir_text_places.proofs.rows.put_files.Given as goal

abbrev pub invariant-loop-file : goal.invariant-loop-file
invariant-loop-file l = names_in l.row.items ≡ names_in l.initial.row.items ++ map (λ (f : PlainFile). f.name) (map file_of (take l.file-index l.files))

use Rattle.std.proofs.Common.{◌≡◌, take, map}
use Rattle.std.specs.List.{sum_by}
use Rattle.ir_model.specs.Plain.{file_of}
use Rattle.ir_text_places.specs.Sizes.{file_size}
use Rattle.ir_text_places.proofs.functions.files_size.Given as goal

abbrev pub invariant-loop-file : goal.invariant-loop-file
invariant-loop-file l = l.size ≡ sum_by file_size (map file_of (take l.file-index l.files))

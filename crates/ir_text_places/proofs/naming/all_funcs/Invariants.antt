use Rattle.std.proofs.Common.{◌≡◌, map, take}
use Rattle.std.specs.Prelude.{flat_map}
use Rattle.ir_model.specs.Plain.{PlainFile, file_of, lent_funcs}
use Rattle.ir_text_places.proofs.naming.all_funcs.Given as goal

abbrev pub invariant-loop-file : goal.invariant-loop-file
invariant-loop-file l = lent_funcs l.bodies.items ≡ flat_map (λ (f : PlainFile). f.funcs) (map file_of (take l.file-index l.files))

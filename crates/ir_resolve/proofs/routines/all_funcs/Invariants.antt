use Rattle.std.proofs.Common.{◌≡◌, map, flat_map, take}
use Rattle.ir_model.specs.Plain.{PlainFile, func_of, file_of}
use Rattle.ir_resolve.proofs.routines.all_funcs.Given as goal

abbrev pub invariant-loop-file : goal.invariant-loop-file
invariant-loop-file l = map (λ f. func_of f.now) l.funcs.items ≡ flat_map (λ (f : PlainFile). f.funcs) (map file_of (take l.file-index l.files))

use Rattle.std.proofs.Common.{◌≡◌, length, take, flat_map}
use Rattle.ir_model.specs.declared.firmware.FileDecl.{FileDecl}
use Rattle.aces_firmwares.proofs.check.count_functions.Given as goal

-- the functions of the files so far
abbrev pub invariant-loop-file : goal.invariant-loop-file
invariant-loop-file l = l.count ≡ length (flat_map (λ (f : FileDecl). f.funcs) (take l.file-index l.files))

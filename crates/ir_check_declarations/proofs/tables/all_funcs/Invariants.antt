use Rattle.std.proofs.Common.{◌≡◌, take, flat_map}
use Rattle.ir_model.specs.declared.firmware.FileDecl.{FileDecl}
use Rattle.ir_check_scopes.specs.Scopes.{lent}
use Rattle.ir_check_declarations.proofs.tables.all_funcs.Given as goal

abbrev pub invariant-loop-file : goal.invariant-loop-file
invariant-loop-file l = lent l.bodies.items ≡ flat_map (λ (f : FileDecl). f.funcs) (take l.file-index l.files)

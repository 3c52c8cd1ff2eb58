-- Beyond the program's claim: only laws, proofs and functions inside the tool cite this file.
-- The functions of a firmware, as its tables lend them.
use Rattle.std.specs.Prelude.{List, map, flat_map}
use Rattle.std.specs.List.{All}
use Rattle.std.proofs.Common.{Bor}
use Rattle.ir_model.specs.declared.firmware.Func.{Func}
use Rattle.ir_model.specs.declared.firmware.FileDecl.{FileDecl}
use Rattle.ir_model.specs.declared.firmware.Firmware.{Firmware}
use Rattle.ir_model.specs.FewItems.{HasFewItems}

-- functions that are lent
abbrev pub lent : List (Bor Func) → List Func
lent fs = map (λ (f : Bor Func). f.now) fs

-- the functions of all files in order
abbrev pub declared_funcs : Firmware → List Func
declared_funcs w = flat_map (λ (f : FileDecl). f.funcs) w.files

abbrev pub AreSmall : List (Bor Func) → Type 0
AreSmall fs = All (λ (f : Bor Func). HasFewItems f.now) fs

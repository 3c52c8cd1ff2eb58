use Rattle.std.proofs.Common.{◌≡◌, ◌++◌, map, drop}
use Rattle.ir_model.specs.Plain.{file_of}
use Rattle.ir_model.specs.Resolve.{files_from}
use Rattle.ir_resolve.proofs.routines.file_numbers.Given as goal

-- the numbers so far, and those of the files that are left
abbrev pub invariant-loop-i : goal.invariant-loop-i
invariant-loop-i l = l.numbers.items ++ files_from l.i (map file_of (drop l.i l.files)) ≡ files_from 0 (map file_of l.files)

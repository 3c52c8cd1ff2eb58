use Rattle.std.proofs.Common.{◌≡◌, map, drop}
use Rattle.ir_model.specs.Plain.{file_of}
use Rattle.ir_model.specs.Typing.{first_failing, file_checks}
use Rattle.ir_check_declarations.proofs.files.each_file.Given as goal

abbrev pub invariant-loop-declaration : goal.invariant-loop-declaration
invariant-loop-declaration l = first_failing (file_checks l.initial.names l.initial.seen (map file_of l.files)) ≡ first_failing (file_checks l.names l.seen (map file_of (drop l.declaration-index l.files)))

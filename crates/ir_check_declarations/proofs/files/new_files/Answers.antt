use Rattle.std.proofs.Common.{subst, map}
use Rattle.ir_model.specs.Plain.{file_of}
use Rattle.ir_model.specs.Typing.{file_checks}
use Rattle.ir_check_scopes.specs.Found.{Finds}
use Rattle.ir_check_declarations.proofs.files.new_files.Goals as goal

pub returns : goal.returns
returns c = subst (λ ns. Finds (file_checks ns c.args.seen.now (map file_of c.args.files.now)) c.each_file.result) c.new-names.ensures c.each_file.ensures

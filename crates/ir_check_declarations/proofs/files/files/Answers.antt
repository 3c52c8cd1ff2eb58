use Rattle.std.proofs.Common.{subst, [], map}
use Rattle.ir_model.specs.Plain.{file_of}
use Rattle.ir_model.specs.Typing.{file_checks}
use Rattle.ir_check_scopes.specs.Found.{Finds}
use Rattle.ir_check_declarations.proofs.files.files.Goals as goal

pub returns : goal.returns
returns c =
    subst (λ ns. Finds (file_checks [] ns (map file_of c.args.firmware.now.files)) c.new_files.result) c.in_ok-seen.ensures
    (subst (λ fs. Finds (file_checks [] c.in_ok-seen.seen (map file_of fs)) c.new_files.result) c.as_slice.ensures c.new_files.ensures)

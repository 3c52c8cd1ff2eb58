use Rattle.std.proofs.Common.{◌≡◌, ◌+◌, length, map}
use Rattle.ir_model.specs.Plain.{file_of}
use Rattle.ir_text_places.specs.Sizes.{func_start}
use Rattle.ir_text_places.proofs.before.func_start.Given as goal

abbrev pub invariant-loop-file : goal.invariant-loop-file
invariant-loop-file l = l.size + func_start l.left (map file_of l.rest) ≡ func_start l.number (map file_of l.files)

abbrev pub decreases-loop-file : goal.decreases-loop-file
decreases-loop-file l = length l.rest

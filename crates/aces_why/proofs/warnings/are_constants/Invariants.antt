use Rattle.std.proofs.Common.{◌≡◌, true, take}
use Rattle.std.specs.List.{list_all}
use Rattle.ir_program.specs.Seen.{program_of}
use Rattle.aces_why.specs.Warnings.{is_constant}
use Rattle.aces_why.proofs.warnings.are_constants.Given as goal

abbrev pub invariant-loop-i : goal.invariant-loop-i
invariant-loop-i l = list_all (is_constant (program_of l.program)) (take l.i l.objects) ≡ true

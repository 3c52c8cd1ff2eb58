use Rattle.std.proofs.Common.{◌≡◌, take}
use Rattle.std.specs.Prelude.{filter}
use Rattle.ir_program.specs.Seen.{program_of}
use Rattle.needs.specs.Accesses.{is_open}
use Rattle.needs.proofs.objects.objects.Given as goal

abbrev pub invariant-loop-i : goal.invariant-loop-i
invariant-loop-i l = l.open.items ≡ filter (is_open (program_of l.program) l.access) (take l.i l.all.items)

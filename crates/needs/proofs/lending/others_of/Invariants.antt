use Rattle.std.proofs.Common.{◌↔◌, ℕ, take}
use Rattle.std.specs.Prelude.{Contains}
use Rattle.ir_program.specs.Seen.{program_of}
use Rattle.need_lists.specs.AnyOf.{AnyOf}
use Rattle.needs.specs.Lent.{Lends}
use Rattle.needs.proofs.lending.others_of.Given as goal

abbrev pub invariant-loop-i : goal.invariant-loop-i
invariant-loop-i l = (x : ℕ × ℕ) → Contains l.locals.items x ↔ AnyOf (Lends (program_of l.program) l.by x) (take l.i l.objects)

use Rattle.std.proofs.Common.{◌↔◌, ℕ, take}
use Rattle.std.specs.Prelude.{Contains}
use Rattle.ir_model.specs.Types.{type_of}
use Rattle.ir_program.specs.Seen.{program_of}
use Rattle.need_lists.specs.AnyOf.{AnyOf}
use Rattle.needs.specs.Targets.{IsFunctionOf}
use Rattle.needs.proofs.targets.targets.Given as goal

abbrev pub invariant-loop-i : goal.invariant-loop-i
invariant-loop-i l = (h : ℕ) → Contains l.targets.items h ↔ AnyOf (IsFunctionOf (program_of l.program) (type_of l.ty) h) (take l.i l.objects)

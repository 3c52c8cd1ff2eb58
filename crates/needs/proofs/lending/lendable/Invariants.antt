use Rattle.std.proofs.Common.{◌↔◌, ℕ, false, get_or}
use Rattle.std.specs.Prelude.{Contains}
use Rattle.ir_program.specs.Seen.{program_of}
use Rattle.plan_model.specs.Needs.{no_need}
use Rattle.needs.specs.Lent.{IsLendableFor}
use Rattle.needs.proofs.Lendables.{AnyBelow}
use Rattle.needs.proofs.lending.lendable.Given as goal

abbrev pub invariant-loop-i : goal.invariant-loop-i
invariant-loop-i l = (x : ℕ × ℕ) → Contains l.locals.items x ↔ AnyBelow (λ (g : ℕ). IsLendableFor (program_of l.program) l.closed g (get_or l.needs g no_need) (get_or l.recursive.items g false) x) l.i

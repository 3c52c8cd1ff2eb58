-- What is answered of a firmware's stack: a bound, or the cycle for which there is none.
use Rattle.std.specs.Prelude.{ℕ}
use Rattle.ir_model.specs.Resolved.{Program}
use Rattle.plan_model.specs.declared.needs.Needs.{Needs}
use Rattle.plan_model.specs.declared.groups.Groups.{Groups}
use Rattle.refine_stack.specs.declared.answer.StackAnswer.{StackAnswer}
use Rattle.refine_stack.specs.declared.answer.StackAnswer.TheVariants.{Cycle, Bound}
use Rattle.refine_stack.specs.Cycles.{Joins, IsCycle}
use Rattle.refine_stack.specs.Bounds.{IsBound}

abbrev pub IsAnswer : Program → Needs → Groups → (stack : ℕ) → StackAnswer → Type 0
IsAnswer p n g stack (Cycle c) = IsCycle (Joins n) p.main c
IsAnswer p n g stack (Bound needed path) = IsBound p n g stack needed path

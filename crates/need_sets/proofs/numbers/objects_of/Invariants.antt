use Rattle.std.proofs.Common.{◌≡◌, ◌∷◌, length, map, take}
use Rattle.ir_program.specs.declared.program.Routine.{Routine}
use Rattle.need_sets.proofs.numbers.objects_of.Given as goal

abbrev pub invariant-loop-func : goal.invariant-loop-func
invariant-loop-func l = l.groups ≡ length l.program.globals ∷ length l.program.periphs ∷ map (λ (r : Routine). length r.locals) (take l.func-index l.program.funcs)

use Rattle.std.proofs.Common.{◌≡◌, length, map, take}
use Rattle.ir_program.specs.declared.program.Routine.{Routine}
use Rattle.need_sets.proofs.numbers.nodes_of.Given as goal

abbrev pub invariant-loop-func : goal.invariant-loop-func
invariant-loop-func l = l.groups ≡ map (λ (r : Routine). length r.registers) (take l.func-index l.program.funcs)

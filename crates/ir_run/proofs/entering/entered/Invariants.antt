use Rattle.std.proofs.Common.{◌≡◌, ◌++◌, map, drop}
use Rattle.ir_model.specs.Types.{type_of}
use Rattle.ir_model.specs.State as state
use Rattle.ir_program.specs.Values.{value_of}
use Rattle.ir_run.proofs.entering.entered.Given as goal

abbrev pub invariant-loop-i : goal.invariant-loop-i
invariant-loop-i l = state.entered (map value_of l.args) (map (λ t. type_of t.now) l.types)
    ≡ map value_of l.values.items ++ state.entered (drop l.i (map value_of l.args)) (map (λ t. type_of t.now) (drop l.i l.types))

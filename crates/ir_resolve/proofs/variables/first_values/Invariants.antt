use Rattle.std.proofs.Common.{◌≡◌, map, take}
use Rattle.ir_model.specs.Resolve as resolving
use Rattle.ir_program.specs.Values.{value_of}
use Rattle.ir_resolve.specs.Scopes.{scope_of}
use Rattle.ir_resolve.proofs.variables.first_values.Given as goal

abbrev pub invariant-loop-cell : goal.invariant-loop-cell
invariant-loop-cell l = map value_of l.values.items ≡ map (resolving.value_of (scope_of l.scope)) (take l.cell-index l.init)

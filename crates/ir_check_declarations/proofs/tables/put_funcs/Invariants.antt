use Rattle.std.proofs.Common.{◌≡◌, ◌++◌, take}
use Rattle.ir_check_scopes.specs.Scopes.{lent}
use Rattle.ir_check_declarations.proofs.tables.put_funcs.Given as goal

abbrev pub invariant-loop-func : goal.invariant-loop-func
invariant-loop-func l = lent l.bodies.items ≡ lent l.initial.bodies.items ++ take l.func-index l.funcs

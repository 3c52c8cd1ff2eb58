use Rattle.std.proofs.Common.{◌≡◌, map, take}
use Rattle.ir_resolve.specs.Scopes.{named_func}
use Rattle.ir_model.specs.Resolve as resolving
use Rattle.ir_resolve.proofs.operations.register_numbers.Given as goal

abbrev pub invariant-loop-name : goal.invariant-loop-name
invariant-loop-name l = l.numbers.items ≡ map (resolving.register_number (named_func l.func)) (take l.name-index l.names)

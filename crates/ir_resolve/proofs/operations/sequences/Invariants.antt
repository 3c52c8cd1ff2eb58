use Rattle.std.proofs.Common.{◌≡◌, map, take}
use Rattle.ir_resolve.specs.Scopes.{named_func}
use Rattle.ir_model.specs.Resolve as resolving
use Rattle.ir_program.specs.Parts.{sequence_of}
use Rattle.ir_resolve.specs.Scopes.{scope_of}
use Rattle.ir_resolve.proofs.operations.sequences.Given as goal

abbrev pub invariant-loop-i : goal.invariant-loop-i
invariant-loop-i l = map (sequence_of (scope_of l.scope).known) l.sequences.items ≡ map (resolving.resolved_block (scope_of l.scope) (named_func l.func)) (take l.i l.blocks)

use Rattle.std.proofs.Common.{◌≡◌, map}
use Rattle.std.specs.List.{range_with_len}
use Rattle.ir_generator.specs.Made.{port}
use Rattle.ir_generator.proofs.make.ports.Given as goal

abbrev pub invariant-loop-number : goal.invariant-loop-number
invariant-loop-number l = l.ports.items ≡ map port (range_with_len 0 l.number)

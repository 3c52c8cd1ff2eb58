use Rattle.std.proofs.Common.{◌≡◌, ◌++◌, map}
use Rattle.std.specs.List.{range_with_len}
use Rattle.ir_generator.specs.Functions.{call_test}
use Rattle.ir_generator.proofs.parts.Code.call_tests.Given as goal

abbrev pub invariant-loop-number : goal.invariant-loop-number
invariant-loop-number l = l.self ≡ l.initial.self ++ map call_test (range_with_len 0 l.number)

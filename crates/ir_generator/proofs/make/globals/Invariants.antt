use Rattle.std.proofs.Common.{◌≡◌, map}
use Rattle.std.specs.List.{range_with_len}
use Rattle.ir_model.specs.Plain.{global_of}
use Rattle.ir_generator.specs.Made.{global}
use Rattle.ir_generator.proofs.make.globals.Given as goal

abbrev pub invariant-loop-number : goal.invariant-loop-number
invariant-loop-number l = map global_of l.globals.items ≡ map global (range_with_len 0 l.number)

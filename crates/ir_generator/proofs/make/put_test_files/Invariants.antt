use Rattle.std.proofs.Common.{◌≡◌, ◌++◌, map}
use Rattle.std.specs.List.{range_with_len}
use Rattle.ir_model.specs.Plain.{file_of}
use Rattle.ir_generator.specs.Made.{test_file}
use Rattle.ir_generator.proofs.make.put_test_files.Given as goal

abbrev pub invariant-loop-number : goal.invariant-loop-number
invariant-loop-number l = map file_of l.files.items ≡ map file_of l.initial.files.items ++ map (test_file l.choices) (range_with_len 0 l.number)

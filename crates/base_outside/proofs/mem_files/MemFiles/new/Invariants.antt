use Rattle.std.proofs.Common.{◌≡◌}
use Rattle.base_outside.proofs.mem_files.MemFiles.new.Given as goal

abbrev pub invariant-loop-entry : goal.invariant-loop-entry
invariant-loop-entry l = l.files.items ≡ l.yielded

-- What is left to write, onto the memory as it is, gives what all of it gives onto the first memory.
use Rattle.std.proofs.Common.{◌≡◌, ◌+◌, ◌*◌, drop}
use Rattle.base_words.specs.Bytes.{write_all}
use Rattle.base_words.proofs.memory.write_words.Given as goal

abbrev pub invariant-loop-i : goal.invariant-loop-i
invariant-loop-i l = write_all 4 (l.place + 4 * l.i) (drop l.i l.words) l.memory ≡ write_all 4 l.place l.words l.initial.memory

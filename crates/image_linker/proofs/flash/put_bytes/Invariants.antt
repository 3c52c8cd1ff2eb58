use Rattle.std.proofs.Common.{◌≡◌, ◌+◌, drop}
use Rattle.base_words.specs.Bytes.{write_all}
use Rattle.image_linker.proofs.flash.put_bytes.Given as goal

-- what was made and what is left are the whole
abbrev pub invariant-loop-k : goal.invariant-loop-k
invariant-loop-k l =
    write_all 1 (l.first + l.k) (drop l.k l.bytes) l.memory ≡ write_all 1 l.first l.bytes l.initial.memory

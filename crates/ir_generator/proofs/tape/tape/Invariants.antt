use Rattle.std.proofs.Common.{◌≡◌, ◌+◌, ◌*◌, map, [], ◌∷◌}
use Rattle.std.specs.List.{range_with_len}
use Rattle.ir_generator.specs.Draws.{state_after, draw}
use Rattle.ir_generator.proofs.tape.tape.Given as goal

-- so many words stand on the tape
abbrev pub invariant-loop-word : goal.invariant-loop-word
invariant-loop-word l = record {
  draws : l.draws ≡ state_after l.fn.seed (2 * l.fn.size + l._word);
  words : l.tape ≡ map (λ k. draw l.fn.seed (2 * l.fn.size + k) 65536) (range_with_len 0 l._word) ∷ [] ∷ [] ∷ [] ∷ [];
}

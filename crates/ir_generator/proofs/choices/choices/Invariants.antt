use Rattle.std.proofs.Common.{◌≡◌, ◌*◌}
use Rattle.ir_generator.specs.Draws.{state_after}
use Rattle.ir_generator.specs.Choices as spec
use Rattle.ir_generator.proofs.choices.choices.Given as goal

-- two draws were made for each choice
abbrev pub invariant-loop-number : goal.invariant-loop-number
invariant-loop-number l = record {
  draws : l.draws ≡ state_after l.fn.seed (2 * l._number);
  are : l.choices.items ≡ spec.choices l.fn.seed l.fn.size l._number;
}

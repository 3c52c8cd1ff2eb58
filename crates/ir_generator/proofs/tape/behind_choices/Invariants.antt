use Rattle.std.proofs.Common.{◌≡◌}
use Rattle.ir_generator.specs.Draws.{state_after}
use Rattle.ir_generator.proofs.tape.behind_choices.Given as goal

-- as many draws were made as turns
abbrev pub invariant-loop-number : goal.invariant-loop-number
invariant-loop-number l = l.draws ≡ state_after l.fn.seed l._number

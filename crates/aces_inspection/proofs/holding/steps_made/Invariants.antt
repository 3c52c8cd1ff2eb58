use Rattle.std.proofs.Common.{◌≡◌, ℕ, ◌<◌, None}
use Rattle.base_words.specs.Runs.{run}
use Rattle.machine_model.specs.Step.{step}
use Rattle.aces_inspection.proofs.holding.steps_made.Given as goal

-- the steps so far
abbrev pub invariant-loop-made : goal.invariant-loop-made
invariant-loop-made l = record {
  image : l.machine.image ≡ l.initial.machine.image;
  state : l.machine.state ≡ run (step l.initial.machine.image) l.made l.initial.machine.state;
  goes_on : (k : ℕ) → k < l.made → (run (step l.initial.machine.image) k l.initial.machine.state).ending ≡ None;
}

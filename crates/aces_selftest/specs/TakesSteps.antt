-- The number of steps that a run takes within a limit.
use Rattle.std.specs.Prelude.{◌≡◌, ◌≢◌, ℕ, ◌<◌, ◌≤◌, Option, None}
use Rattle.base_words.specs.Runs.{run}
use Rattle.machine_model.specs.declared.state.End.{End}
use Rattle.machine_model.specs.State.{State}

-- the steps up to the one by which the run ends, and that one among them; or all that it may take, where it goes on
pub record TakesSteps {S E : Type 0} (ending : S → Option E) (step : S → S) (limit : ℕ) (first : S) (n : ℕ) : Type 0 where
  pub few : n ≤ limit
  pub goes : (k : ℕ) → k < n → ending (run step k first) ≡ None
  pub ends : n < limit → ending (run step n first) ≢ None

-- how a machine has ended, if it has
abbrev pub machine_ending_of : State → Option End
machine_ending_of s = s.ending

-- Runs of a step function. Beside the step, a function gives the event of a step from a state, if there is one.
use Rattle.std.specs.Prelude.{◌≡◌, ℕ, zero, suc, List, [], ◌++◌, Option, option_to_list}

-- the state n steps after s
unfoldable pub run : {S : Type 0} → (S → S) → ℕ → S → S
run step zero s = s
run step (suc n) s = run step n (step s)

-- the events of n steps from s, in order
unfoldable pub events : {S E : Type 0} → (S → S) → (S → Option E) → ℕ → S → List E
events step event zero s = []
events step event (suc n) s = option_to_list (event s) ++ events step event n (step s)

-- k steps from s lead to t, and these are their events
pub record Goes {S E : Type 0} (step : S → S) (event : S → Option E) (k : ℕ) (s t : S) (es : List E) : Type 0 where
  pub leads : run step k s ≡ t
  pub tells : events step event k s ≡ es

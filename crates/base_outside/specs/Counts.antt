-- Counts of faults, kept in 64 bits.
use Rattle.std.specs.Prelude.{◌≡◌, ℕ, ◌+◌, ◌^◌, ◌<◌, ◌≤◌, Result, OnOk}

-- a count rose in a call, unless it stood at its last value, 2 ^ 64 - 1, when the call began
abbrev pub Rose : ℕ → ℕ → Type 0
Rose before after = before + 1 < 2 ^ 64 → before < after

-- a count that no fault has touched: it is the same, and it could have risen
pub record Stayed (before after : ℕ) : Type 0 where
  pub same : after ≡ before
  pub could_rise : before + 1 < 2 ^ 64

-- a count never falls in a call, and it rises only where the call fails, by one
pub record Counts {T E : Type 0} (before after : ℕ) (result : Result T E) : Type 0 where
  pub never_falls : before ≤ after
  pub at_most_one : after ≤ before + 1
  pub only_failed : OnOk result (after ≡ before)

-- Draws: numbers that a seed gives, one after another, by a linear congruential generator.
use Rattle.std.specs.Prelude.{ℕ, zero, suc, ◌+◌, ◌*◌, ◌/◌, ◌%◌, ◌^◌}

-- the state behind a state
abbrev pub stirred : ℕ → ℕ
stirred x = (x * 1664525 + 1013904223) % 2 ^ 32

-- the state after so many draws
abbrev pub state_after : (seed draws : ℕ) → ℕ
state_after seed zero = seed
state_after seed (suc k) = stirred (state_after seed k)

-- what a state gives, below a bound
abbrev pub given : (state below : ℕ) → ℕ
given x k = x / 65536 % k

-- the draw of this number, from 0, below a bound
abbrev pub draw : (seed number below : ℕ) → ℕ
draw seed i k = given (state_after seed (i + 1)) k

-- Beyond the program's claim: only laws, proofs and functions inside the tool cite this file.
-- Places that have a place behind them.
use Rattle.std.specs.Prelude.{ℕ, ◌+◌, ◌<◌, ◌^◌}

-- the number of the place behind is one of the machine's
abbrev pub HasNext : ℕ → Type 0
HasNext place = place + 1 < 2 ^ 64

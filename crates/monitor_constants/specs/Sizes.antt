-- Beyond the program's claim: only laws, proofs and functions inside the tool cite this file.
-- Sizes that are counted in 64 bits.
use Rattle.std.specs.Prelude.{ℕ, ◌-◌, ◌^◌}

-- the greatest number of 64 bits, at which they stop
abbrev pub most : ℕ
most = 2 ^ 64 - 1

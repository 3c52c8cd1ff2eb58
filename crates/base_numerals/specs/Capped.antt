-- Beyond the program's claim: only laws, proofs and functions inside the tool cite this file.
-- Numbers that are told apart only below 2^32.
use Rattle.std.specs.Prelude.{ℕ, ◌^◌, min, Option, Some, None}

-- a number above 2^32 counts as 2^32
abbrev pub capped : Option ℕ → Option ℕ
capped None = None
capped (Some n) = Some (min n (2 ^ 32))

-- Beyond the program's claim: only laws, proofs and functions inside the tool cite this file.
-- The cells of a window.
use Rattle.std.specs.Prelude.{ℕ, ◌+◌, ◌%◌, Bool, ◌&&◌, nat_eq, nat_le}
use Rattle.ir_model.specs.Types.{PlainType, is_integer, width_of}

abbrev pub is_port : (size at : ℕ) → PlainType → Bool
is_port n at t = is_integer t && (nat_eq (at % width_of t) 0 && nat_le (at + width_of t) n)

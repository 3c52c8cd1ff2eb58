-- The recorded input of a generated firmware.
use Rattle.std.specs.Prelude.{ℕ, ◌+◌, ◌*◌, List, [], ◌∷◌, map}
use Rattle.std.specs.List.{range_with_len}
use Rattle.ir_generator.specs.Draws.{draw}

-- four draws behind those of the functions, for the first peripheral alone
abbrev pub taped : (seed size : ℕ) → List (List ℕ)
taped seed size = map (λ k. draw seed (2 * size + k) 65536) (range_with_len 0 4) ∷ [] ∷ [] ∷ [] ∷ []

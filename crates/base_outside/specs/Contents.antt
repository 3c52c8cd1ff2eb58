-- What the calls of files and sinks do to bytes.
use Rattle.std.specs.Prelude.{◌≡◌, ◌⊎◌, ◌↔◌, ℕ, ◌≤◌, List, ◌++◌, length, take, drop, Option}
use Rattle.std.specs.Option.{option_map}

-- the new bytes are the old ones with a prefix of the piece at their end
abbrev pub AddsPrefix : List ℕ → List ℕ → List ℕ → Type 0
AddsPrefix old new piece = (n : ℕ) × (new ≡ old ++ take n piece)

-- the same of the bytes under a name, if it is there
abbrev pub HoldsPrefix : Option (List ℕ) → Option (List ℕ) → List ℕ → Type 0
HoldsPrefix old new piece = (n : ℕ) × (new ≡ option_map (λ bytes. bytes ++ take n piece) old)

-- the first n bytes of a buffer are the bytes from a place on, and n is 0 exactly where the buffer is
-- empty or the place is at the end or past it
pub record ReadsFrom (bytes : List ℕ) (place : ℕ) (buffer : List ℕ) (n : ℕ) : Type 0 where
  pub front : take n buffer ≡ take n (drop place bytes)
  pub nothing : (n ≡ 0) ↔ ((length buffer ≡ 0) ⊎ (length bytes ≤ place))

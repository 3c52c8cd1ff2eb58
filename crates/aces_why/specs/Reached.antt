-- Which numbers are reached from a first one, where a list for each says which come next of it.
use Rattle.std.specs.Prelude.{◌≡◌, ◌↔◌, ℕ, ◌<◌, Bool, true, false, List, [], length, get_or, Contains}

-- a number is the first one, or comes next of one that is reached; nothing comes next of a number that has no list
pub data Leads (next : List (List ℕ)) (first : ℕ) : ℕ → Type 0 where
  at_first : Leads next first first
  further : {a b : ℕ} → Leads next first a → Contains (get_or next a []) b → Leads next first b

-- a flag for each number that has a list, set exactly where it is reached
pub record AreReached (next : List (List ℕ)) (first : ℕ) (flags : List Bool) : Type 0 where
  pub count : length flags ≡ length next
  pub each : (g : ℕ) → g < length next → get_or flags g false ≡ true ↔ Leads next first g
